use Rattle.std.proofs.Common.{◌≤◌, [], Some, false, length, subst}
use Rattle.view_figures.specs.FigureSums.{levels_of}
use Rattle.view_measures.specs.declared.figure.Figure.{Figure}
use Rattle.view_measures.specs.declared.kind.Kind.{Kind}
use Rattle.view_measures.specs.declared.measure.Measure.{Measure}
use Rattle.view_measures.specs.Measures.{figure}
use Rattle.law_figures.specs.Counts.{one_if}
use Rattle.seen_ticks.specs.Seen.{seen_of}
use Rattle.search_labels.specs.Ticks.{alarm_in}
use Rattle.search_peaks.specs.Noting.{reading, shown_by}
use Rattle.search_peaks.specs.Peaks.{number_in}
use Rattle.search_peaks.specs.Raising.{IsAllNoted, noted_of}
use Rattle.search_peaks.proofs.NotingLemmas.{all_noted}
use Rattle.search_peaks.proofs.PeakLemmas.{both, gives, of_all, of_both, of_errors}
use Rattle.search_peaks.proofs.noting.note_figures.Goals as goal

pub returns : goal.returns
returns c =
    let levels = levels_of c.args.system.now in
    let cap = c.args.cap in
    let o = c.args.seen.now in
    let l = c.args.labels.now in
    let t = shown_by o c.args.is_over in
    let alone = reading [] cap (shown_by o false) l in
    let tasks =
    of_all (reading levels cap (shown_by o false) l) (noted_of Kind.Task) (length o.tasks.items) in
    let routines = of_all alone (noted_of Kind.Routine) (length o.routines.items) in
    let holds = of_all alone (noted_of Kind.Resource) (length o.holders.items) in
    let actions = of_all
    (λ (f : Figure). Some (one_if (alarm_in (seen_of o) f.number).is_refused))
    (noted_of Kind.Alarm) (length o.alarms.items) in
    let two = of_both _ _ tasks routines in
    let three = of_both _ _ two holds in
    let four = of_both _ _ three actions in
    let five = of_both _ _ four (of_errors o.failure) in
    gives _ (IsAllNoted (reading levels cap t l) (seen_of o)) _ _ _
    (λ n. all_noted levels cap t l _ n.0.0.0.0.0 n.0.0.0.0.1 n.0.0.0.1 n.0.0.1 n.0.1
    (subst (λ n. n ≤ number_in c.raise-ends.new.numbers (figure Measure.Shutdown 0))
    c.one_if-over.ensures n.1))
    (both _ _ _ _ _ _ _ five
    (both _ _ _ _ _ _ _ four
    (both _ _ _ _ _ _ _ three
    (both _ _ _ _ _ _ _ two
    (both _ _ _ _ _ _ _ tasks c.note_tasks-tasks.ensures c.note_routines-routines.ensures)
    c.note_holds-holds.ensures) c.note_actions-actions.ensures) c.note_owner-errors.ensures)
    c.raise-ends.ensures)
