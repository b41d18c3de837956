use Rattle.search_peaks.proofs.NotingLemmas.{routine_noted}
use Rattle.search_peaks.proofs.noting.note_routine.Goals as goal

pub returns : goal.returns
returns c =
    routine_noted c.args.cap c.args.seen.now c.args.labels.now c.args.routine
    c.routine_tick-tick.result c.waited-wait.result c.one_at_most-lost.result _ _ _ _ _
    c.routine_tick-tick.ensures c.waited-wait.ensures c.one_at_most-lost.ensures
    c.raise-is_lost.ensures c.raise-is_longer.ensures
