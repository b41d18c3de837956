use Rattle.std.proofs.Common.{◌≡◌, drop}
use Rattle.std.specs.Prelude.{length}
use Rattle.std.specs.List.{list_all}
use Rattle.system_gen.specs.Programs.{jumps_below}
use Rattle.system_gen.proofs.program_checks.jumps_within.Given as goal

abbrev pub invariant-loop-line : goal.invariant-loop-line
invariant-loop-line l = list_all (jumps_below (length l.lines)) (drop l.line-index l.lines) ≡ list_all (jumps_below (length l.lines)) l.lines
