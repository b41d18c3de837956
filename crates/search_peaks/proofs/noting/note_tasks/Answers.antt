use Rattle.std.proofs.Common.{false}
use Rattle.view_figures.specs.FigureSums.{levels_of}
use Rattle.view_measures.specs.declared.kind.Kind.{Kind}
use Rattle.search_peaks.specs.Noting.{reading, shown_by}
use Rattle.search_peaks.specs.Raising.{noted_of}
use Rattle.search_peaks.proofs.PeakLemmas.{thing_more}
use Rattle.search_peaks.proofs.noting.note_tasks.Goals as goal

-- a task more is noted
pub loop-task-preserved : goal.loop-task-preserved
loop-task-preserved c =
    let l = c.loop-task in
    thing_more (reading (levels_of c.args.system.now) c.args.cap (shown_by c.args.seen.now false) c.args.labels.now)
    (noted_of Kind.Task) l.task _ _ _ _ _ l.invariant c.note_task-rises.ensures
