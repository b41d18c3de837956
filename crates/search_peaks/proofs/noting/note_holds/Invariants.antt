use Rattle.std.proofs.Common.{[], false}
use Rattle.view_measures.specs.declared.kind.Kind.{Kind}
use Rattle.search_peaks.specs.Noting.{reading, shown_by}
use Rattle.search_peaks.specs.Raising.{IsNotedBelow, Raises, noted_of}
use Rattle.search_peaks.proofs.noting.note_holds.Given as goal

-- of those gone over
abbrev pub invariant-loop-resource : goal.invariant-loop-resource
invariant-loop-resource l =
    Raises
    (IsNotedBelow (reading [] l.cap (shown_by l.seen false) l.labels) (noted_of Kind.Resource)
    l.resource)
    l.fn.numbers l.numbers l.rises
