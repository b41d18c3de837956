use Rattle.std.proofs.Common.{◌≡◌, map}
use Rattle.osek_base.specs.Upper.{is_upper_alarm}
use Rattle.osek_base.specs.System.{alarm}
use Rattle.osek_base.specs.Agree.{kept}
use Rattle.partition_check.proofs.upper_part.UpperPart.alarms.Given as goal

abbrev pub invariant-loop-number : goal.invariant-loop-number
invariant-loop-number l = l.alarms.items ≡ map (alarm l.self.system) (kept (is_upper_alarm l.self.system l.self.p) l.number)
