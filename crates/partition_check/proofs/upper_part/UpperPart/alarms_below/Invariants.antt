use Rattle.std.proofs.Common.{◌≡◌}
use Rattle.osek_base.specs.Upper.{is_upper_alarm}
use Rattle.osek_base.specs.Agree.{rank}
use Rattle.partition_check.proofs.upper_part.UpperPart.alarms_below.Given as goal

abbrev pub invariant-loop-number : goal.invariant-loop-number
invariant-loop-number l = l.rank ≡ rank (is_upper_alarm l.self.system l.self.p) l.number
