use Rattle.std.proofs.Common.{[], ◌∷◌, Some}
use Rattle.std.specs.Int.{bit_at}
use Rattle.view_measures.specs.declared.figure.Figure.{Figure}
use Rattle.view_measures.specs.declared.measure.Measure.{Measure}
use Rattle.search_peaks.specs.Raising.{IsNotedBelow, Raises}
use Rattle.search_peaks.proofs.noting.note_lost.Given as goal

-- of those gone over
abbrev pub invariant-loop-routine : goal.invariant-loop-routine
invariant-loop-routine l =
    Raises
    (IsNotedBelow (λ (f : Figure). Some (bit_at l.set f.number)) (Measure.Loss ∷ []) l.routine)
    l.fn.numbers l.numbers l.rises
