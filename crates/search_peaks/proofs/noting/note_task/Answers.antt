use Rattle.std.proofs.Common.{◌∙◌, ap, min}
use Rattle.view_figures.specs.FigureSums.{levels_of}
use Rattle.search_peaks.proofs.NotingLemmas.{task_noted}
use Rattle.search_peaks.proofs.noting.note_task.Goals as goal

pub returns : goal.returns
returns c =
    task_noted (levels_of c.args.system.now) c.args.cap c.args.seen.now c.args.labels.now
    c.args.task c.ready_tick-tick.result c.oldest_age-age.result c.blocked_ticks-ticks.result
    c.one_at_most-least.result c.from-jobs.result c.one_at_most-refused.result
    _ _ _ _ _ _ _ _ _ _ _ c.ready_tick-tick.ensures c.oldest_age-age.ensures
    c.blocked_ticks-ticks.ensures c.one_at_most-least.ensures c.from-jobs.ensures
    (c.one_at_most-refused.ensures ∙ ap (min 1) c.from.ensures) c.raise-is_refused.ensures
    c.raise-has_jobs.ensures c.raise-has_blocker.ensures c.raise-is_blocked.ensures
    c.raise-is_older.ensures
