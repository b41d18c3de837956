use Rattle.std.proofs.Common.{[], false}
use Rattle.view_measures.specs.declared.kind.Kind.{Kind}
use Rattle.view_measures.specs.declared.measure.Measure.{Measure}
use Rattle.search_peaks.specs.Noting.{reading, shown_by}
use Rattle.search_peaks.specs.Raising.{noted_of}
use Rattle.search_peaks.proofs.NotingLemmas.{hold_is}
use Rattle.search_peaks.proofs.PeakLemmas.{first_measure, thing_more}
use Rattle.search_peaks.proofs.noting.note_holds.Goals as goal

-- a resource more is noted
pub loop-resource-preserved : goal.loop-resource-preserved
loop-resource-preserved c =
    let l = c.loop-resource in
    let shown = reading [] c.args.cap (shown_by c.args.seen.now false) c.args.labels.now in
    thing_more shown (noted_of Kind.Resource) l.resource _ _ _ _ _ l.invariant
    (first_measure shown Measure.Hold l.resource _ _ _ _
    (hold_is c.args.cap c.args.seen.now c.args.labels.now l.resource _ _ c.holder_tick.ensures c.held_ticks-held.ensures)
    c.raise-rises.ensures)
