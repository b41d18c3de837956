use Rattle.std.proofs.Common.{[], ◌∷◌, Some, refl}
use Rattle.std.specs.Int.{bit_at}
use Rattle.view_measures.specs.declared.figure.Figure.{Figure}
use Rattle.view_measures.specs.declared.measure.Measure.{Measure}
use Rattle.search_peaks.proofs.PeakLemmas.{first_measure, thing_more}
use Rattle.search_peaks.proofs.noting.note_lost.Goals as goal

-- a routine more is noted
pub loop-routine-preserved : goal.loop-routine-preserved
loop-routine-preserved c =
    let l = c.loop-routine in
    let shown = λ (f : Figure). Some (bit_at c.args.set f.number) in
    thing_more shown (Measure.Loss ∷ []) l.routine _ _ _ _ _ l.invariant
    (first_measure shown Measure.Loss l.routine _ _ _ _ refl c.raise-rises.ensures)
