use Rattle.std.proofs.Common.{List, Some, slice_index_or, ◌∙◌, ap}
use Rattle.view_measures.specs.declared.figure.Figure.{Figure}
use Rattle.view_measures.specs.declared.kind.Kind.{Kind}
use Rattle.view_measures.specs.declared.measure.Measure.{Measure}
use Rattle.law_figures.specs.Counts.{one_if}
use Rattle.seen_ticks.specs.declared.alarm_seen.AlarmSeen.{AlarmSeen}
use Rattle.seen_ticks.specs.Seen.{seen_of, unseen_alarm}
use Rattle.search_labels.specs.Ticks.{alarm_in}
use Rattle.search_peaks.specs.Raising.{noted_of}
use Rattle.search_peaks.proofs.PeakLemmas.{first_measure, thing_more}
use Rattle.search_peaks.proofs.noting.note_actions.Goals as goal

-- an alarm more is noted
pub loop-alarm-preserved : goal.loop-alarm-preserved
loop-alarm-preserved c =
    let l = c.loop-alarm in
    let shown = λ (f : Figure). Some (one_if (alarm_in (seen_of c.args.seen.now) f.number).is_refused) in
    thing_more shown (noted_of Kind.Alarm) l.alarm _ _ _ _ _ l.invariant
    (first_measure shown Measure.RefusedAction l.alarm _ _ _ _
    (ap (λ n. Some n) (c.one_if-refused.ensures
    ∙ ap (λ (xs : List AlarmSeen).
    one_if (slice_index_or xs c.loop-alarm.alarm unseen_alarm).is_refused) c.deref.ensures.0))
    c.raise-rises.ensures)
