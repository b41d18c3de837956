use Rattle.std.proofs.Common.{[], false}
use Rattle.view_measures.specs.declared.kind.Kind.{Kind}
use Rattle.search_peaks.specs.Noting.{reading, shown_by}
use Rattle.search_peaks.specs.Raising.{IsNotedBelow, Raises, noted_of}
use Rattle.search_peaks.proofs.noting.note_routines.Given as goal

-- of those gone over
abbrev pub invariant-loop-routine : goal.invariant-loop-routine
invariant-loop-routine l =
    Raises
    (IsNotedBelow (reading [] l.cap (shown_by l.seen false) l.labels) (noted_of Kind.Routine)
    l.routine)
    l.fn.numbers l.numbers l.rises
