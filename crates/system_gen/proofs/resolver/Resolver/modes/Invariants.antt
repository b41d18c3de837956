use Rattle.std.proofs.Common.{◌≡◌, map, take}
use Rattle.system_gen.specs.DeclaredNames.{number}
use Rattle.system_gen.proofs.resolver.Resolver.modes.Given as goal

abbrev pub invariant-loop-name : goal.invariant-loop-name
invariant-loop-name l = l.modes.items ≡ map (number l.self.declared.modes) (take l.name-index l.names)
