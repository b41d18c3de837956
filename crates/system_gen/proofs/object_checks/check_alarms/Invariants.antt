use Rattle.std.proofs.Common.{◌≡◌, drop}
use Rattle.system_gen.specs.Checks.{alarm_fault}
use Rattle.system_gen.proofs.object_checks.check_alarms.Given as goal

abbrev pub invariant-loop-alarm : goal.invariant-loop-alarm
invariant-loop-alarm l = alarm_fault l.file (drop l.alarm-index l.alarm-items) ≡ alarm_fault l.file l.alarm-items
