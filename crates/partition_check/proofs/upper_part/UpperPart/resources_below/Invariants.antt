use Rattle.std.proofs.Common.{◌≡◌}
use Rattle.osek_base.specs.Agree.{rank, is_upper_declared}
use Rattle.partition_check.proofs.upper_part.UpperPart.resources_below.Given as goal

abbrev pub invariant-loop-number : goal.invariant-loop-number
invariant-loop-number l = l.rank ≡ rank (is_upper_declared l.self.system l.self.p) l.number
