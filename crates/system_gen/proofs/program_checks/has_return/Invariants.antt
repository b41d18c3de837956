use Rattle.std.proofs.Common.{◌≡◌, drop}
use Rattle.std.specs.List.{list_any}
use Rattle.system_gen.specs.Programs.{is_return}
use Rattle.system_gen.proofs.program_checks.has_return.Given as goal

abbrev pub invariant-loop-line : goal.invariant-loop-line
invariant-loop-line l = list_any is_return (drop l.line-index l.lines) ≡ list_any is_return l.lines
