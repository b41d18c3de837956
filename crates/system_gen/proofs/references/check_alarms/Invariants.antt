use Rattle.std.proofs.Common.{◌≡◌, drop}
use Rattle.system_gen.specs.References.{first_of, alarm_reference}
use Rattle.system_gen.proofs.references.check_alarms.Given as goal

abbrev pub invariant-loop-alarm : goal.invariant-loop-alarm
invariant-loop-alarm l = first_of (alarm_reference l.declared) (drop l.alarm-index l.alarms) ≡ first_of (alarm_reference l.declared) l.alarms
