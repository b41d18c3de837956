use Rattle.std.proofs.Common.{◌+◌}
use Rattle.alarms.proofs.AdvanceLemmas.{AreThrough}
use Rattle.alarms.proofs.QuietLemmas.{AreQuiet}
use Rattle.alarms.proofs.counters.advance_each.Given as goal

abbrev pub invariant-loop-number : goal.invariant-loop-number
invariant-loop-number l = record {
  through : AreThrough l.tick l.ticks l.initial.counters.items l.counters.items l.initial.due l.due l.number;
  quiet : AreQuiet (l.tick + l.ticks) l.most l.least l.counters.items l.number;
}
