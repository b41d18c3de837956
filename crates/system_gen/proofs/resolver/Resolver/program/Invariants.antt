use Rattle.std.proofs.Common.{◌≡◌, take}
use Rattle.system_gen.specs.Generated.{resolved_program}
use Rattle.system_gen.proofs.resolver.Resolver.program.Given as goal

abbrev pub invariant-loop-line : goal.invariant-loop-line
invariant-loop-line l = l.program ≡ resolved_program l.self (take l.line-index l.lines)
