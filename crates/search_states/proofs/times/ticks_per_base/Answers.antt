use Rattle.search_states.proofs.CounterLemmas.{some_ticks}
use Rattle.search_states.proofs.times.ticks_per_base.Goals as goal

pub returns-clause-some : goal.returns-clause-some
returns-clause-some c =
    let base = some_ticks _ _ c.shows_proper.ensures c.requires in
    rw c.counter_of.ensures base
