use Rattle.std.proofs.Common.{◌≡◌, map}
use Rattle.osek_base.specs.Names.{name_at}
use Rattle.osek_base.specs.Upper.{is_upper_alarm}
use Rattle.osek_base.specs.Agree.{kept}
use Rattle.partition_check.proofs.upper_part.UpperPart.alarm_names.Given as goal

abbrev pub invariant-loop-number : goal.invariant-loop-number
invariant-loop-number l = l.upper.items ≡ map (name_at l.names) (kept (is_upper_alarm l.self.system l.self.p) l.number)
