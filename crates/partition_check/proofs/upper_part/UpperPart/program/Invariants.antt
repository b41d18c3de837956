use Rattle.std.proofs.Common.{◌≡◌, map, take}
use Rattle.osek_base.specs.Agree.{renumbered}
use Rattle.partition_check.proofs.upper_part.UpperPart.program.Given as goal

abbrev pub invariant-loop-line : goal.invariant-loop-line
invariant-loop-line l = l.program ≡ map (renumbered l.self.system l.self.p) (take l.line-index l.lines)
