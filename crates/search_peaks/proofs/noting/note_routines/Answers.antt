use Rattle.std.proofs.Common.{[], false}
use Rattle.view_measures.specs.declared.kind.Kind.{Kind}
use Rattle.search_peaks.specs.Noting.{reading, shown_by}
use Rattle.search_peaks.specs.Raising.{noted_of}
use Rattle.search_peaks.proofs.PeakLemmas.{thing_more}
use Rattle.search_peaks.proofs.noting.note_routines.Goals as goal

-- a routine more is noted
pub loop-routine-preserved : goal.loop-routine-preserved
loop-routine-preserved c =
    let l = c.loop-routine in
    thing_more (reading [] c.args.cap (shown_by c.args.seen.now false) c.args.labels.now) (noted_of Kind.Routine)
    l.routine _ _ _ _ _ l.invariant c.note_routine-rises.ensures
