use Rattle.std.proofs.Common.{false}
use Rattle.view_figures.specs.FigureSums.{levels_of}
use Rattle.view_measures.specs.declared.kind.Kind.{Kind}
use Rattle.search_peaks.specs.Noting.{reading, shown_by}
use Rattle.search_peaks.specs.Raising.{IsNotedBelow, Raises, noted_of}
use Rattle.search_peaks.proofs.noting.note_tasks.Given as goal

-- of those gone over
abbrev pub invariant-loop-task : goal.invariant-loop-task
invariant-loop-task l =
    Raises
    (IsNotedBelow (reading (levels_of l.system) l.cap (shown_by l.seen false) l.labels)
    (noted_of Kind.Task) l.task)
    l.fn.numbers l.numbers l.rises
