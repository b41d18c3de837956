use Rattle.alarms.proofs.QuietLemmas.{AreQuiet}
use Rattle.alarms.proofs.counters.quiet_ticks.Given as goal

abbrev pub invariant-loop-number : goal.invariant-loop-number
invariant-loop-number l = AreQuiet l.tick l.most l.least l.counters.items l.number
