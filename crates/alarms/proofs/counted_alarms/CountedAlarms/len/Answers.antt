use Rattle.std.proofs.Common.{length, ap, sym, ◌∙◌}
use Rattle.alarms.specs.Alarms.{AlarmTable}
use Rattle.alarms.proofs.PlaceLemmas.{length-expiries}
use Rattle.alarms.proofs.counted_alarms.CountedAlarms.len.Goals as goal

pub returns-clause-value : goal.returns-clause-value
returns-clause-value c =
    c.len.ensures.value
    ∙ (sym (length-expiries c.self.inside.tick c.self.inside.counters.items c.self.inside.numbers.items) ∙ ap (λ (t : AlarmTable). length t.expiries) c.self.view_is)
