use Rattle.alarms.proofs.AlarmLemmas.{IsStarted}
use Rattle.alarms.proofs.alarms.Alarms.start.Given as goal

abbrev pub invariant-loop-number : goal.invariant-loop-number
invariant-loop-number l = IsStarted l.system l.mode l.initial.self l.self l.number
