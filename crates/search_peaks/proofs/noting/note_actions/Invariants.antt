use Rattle.std.proofs.Common.{Some}
use Rattle.view_measures.specs.declared.figure.Figure.{Figure}
use Rattle.view_measures.specs.declared.kind.Kind.{Kind}
use Rattle.law_figures.specs.Counts.{one_if}
use Rattle.seen_ticks.specs.Seen.{seen_of}
use Rattle.search_labels.specs.Ticks.{alarm_in}
use Rattle.search_peaks.specs.Raising.{IsNotedBelow, Raises, noted_of}
use Rattle.search_peaks.proofs.noting.note_actions.Given as goal

-- of those gone over
abbrev pub invariant-loop-alarm : goal.invariant-loop-alarm
invariant-loop-alarm l =
    Raises
    (IsNotedBelow (λ (f : Figure). Some (one_if (alarm_in (seen_of l.seen) f.number).is_refused))
    (noted_of Kind.Alarm) l.alarm)
    l.fn.numbers l.numbers l.rises
