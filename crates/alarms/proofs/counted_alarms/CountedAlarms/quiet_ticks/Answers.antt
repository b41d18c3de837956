use Rattle.std.proofs.Common.{◌+◌, sym, subst, ◌∙◌}
use Rattle.std.proofs.lemmas.Bool.{false≢true}
use Rattle.alarms.specs.Alarms.{AreQuietFor}
use Rattle.alarms.proofs.QuietLemmas.{all_quiet, quiet_table}
use Rattle.alarms.proofs.counted_alarms.CountedAlarms.quiet_ticks.Goals as goal

pub returns-clause-quiet : goal.returns-clause-quiet
returns-clause-quiet c =
    subst (AreQuietFor c.quiet_ticks.result) c.self.view_is
    (quiet_table c.self.inside.tick c.quiet_ticks.result c.self.inside.counters.items c.self.inside.numbers.items c.self.invariant c.quiet_ticks.ensures.quiet)

pub returns-clause-last : goal.returns-clause-last
returns-clause-last c = λ some quiet.
    let all = all_quiet c.self.inside.tick (c.quiet_ticks.result + 1) c.self.inside.counters.items c.self.inside.numbers.items c.self.invariant
    (subst (AreQuietFor (c.quiet_ticks.result + 1)) (sym c.self.view_is) quiet) in
    false≢true (sym (c.quiet_ticks.ensures.last some) ∙ all)
