-- Nothing is lost, refused or answered other than E_OK in a run where it isn't in any of its ticks.
use Rattle.std.proofs.Common.{ℕ, zero, suc, ◌≡◌, ◌<◌, ◌&&◌, List, [], ◌∷◌, map, length, refl, ◌∙◌, ap, arith}
use Rattle.std.specs.Prelude.{slice_index_or}
use Rattle.osek_base.specs.declared.arrivals.Arrival.{Arrival}
use Rattle.osek_base.specs.System.{System}
use Rattle.seen_ticks.specs.declared.observation.Observation.{Observation}
use Rattle.law_future.proofs.Tables.{table_at}
use Rattle.law_seen.specs.Shown.{alarm_seen_in, kept_tick_at}
use Rattle.view_figures.specs.declared.alarm_figures.AlarmTick.{AlarmTick}
use Rattle.view_figures.specs.declared.alarm_figures.AlarmFigures.{AlarmFigures}
use Rattle.view_figures.specs.declared.routine_figures.RoutineTick.{RoutineTick}
use Rattle.view_figures.specs.declared.routine_figures.RoutineFigures.{RoutineFigures}
use Rattle.view_figures.specs.declared.task_figures.TaskFigures.{TaskFigures}
use Rattle.view_figures.specs.declared.task_tick.TaskTick.{TaskTick}
use Rattle.view_figures.specs.AlarmSums.{alarm_figures}
use Rattle.seen_ticks.specs.Seen.{unseen_alarm}
use Rattle.view_figures.specs.FigureSums.{RunFigures, alarm_tick, is_error, is_routine, is_task, levels_of, routine_tick, task_figures, task_tick}
use Rattle.view_figures.specs.RoutineSums.{routine_figures}
use Rattle.view_figures.specs.TaskSums.{task_counts}
use Rattle.law_figures.specs.Counts.{IsNever, one_if}
use Rattle.law_figures.proofs.Counts.{counts_tell}
use Rattle.law_figures.specs.RunFigures.{AreRunFigures, AreTicksOf, IsTickOf, IsZeroBefore, RunsHaveNone, alarm_ticks, routine_errors as routine_errors_at, routine_ticks, task_errors, task_ticks}
use Rattle.law_figures.proofs.Running.{routine_seen, shows, task_seen}

module _ (S : System) (mode : ℕ) (arrivals : List Arrival) {T : Type 0} (number : T → ℕ)
    (tick : Observation → T) (shown : ℕ → ℕ)
    (same : (n : ℕ) (o : Observation) → IsTickOf S mode arrivals n o
    → number (tick o) ≡ shown n) where
  never : (n : ℕ) (seen : List Observation) → AreTicksOf S mode arrivals n seen
      → IsZeroBefore shown n
      → IsNever number (map tick seen)
  never zero [] are zeros = tt
  never zero (o ∷ before) are zeros = absurd are
  never (suc n) [] are zeros = absurd are
  never (suc n) (o ∷ before) are zeros = (
    same n o are.0 ∙ zeros n (omega arith),
    never n before are.1
        (λ i low. zeros i (omega (arith, low))),
  )

counts_of : (seen : List TaskTick) → (task_figures seen).counts ≡ task_counts seen
unfolding task_figures
counts_of seen = refl

module _ (S : System) (mode : ℕ) (arrivals : List Arrival) (n : ℕ) (f : RunFigures)
    (are : AreRunFigures S mode arrivals n f) where
  losses : (k : ℕ) → k < length S.routines
      → IsZeroBefore (λ i. (routine_ticks S mode arrivals k i).seen.lost) n
      → (slice_index_or f.routines k (routine_figures [])).losses ≡ 0
  losses k low zeros =
      let tick = λ (o : Observation). routine_tick o k in
      ap (λ (g : RoutineFigures). g.losses) (are.figures.routines.each k low)
      ∙ (counts_tell.1 (map tick are.seen)).losses.none
      (never S mode arrivals (λ (r : RoutineTick). r.seen.lost) tick
      (λ i. (routine_ticks S mode arrivals k i).seen.lost)
      (λ i o is. (λ j. (routine_seen S mode arrivals are.proper i o is k low j).lost)) n
      are.seen are.ticks zeros)

  refusals : (k : ℕ) → k < length S.tasks
      → IsZeroBefore (λ i. (task_ticks S mode arrivals k i).seen.refused) n
      → (slice_index_or f.tasks k (task_figures [])).counts.refused ≡ 0
  refusals k low zeros =
      let tick = λ (o : Observation). task_tick (levels_of S) o k in
      ap (λ (g : TaskFigures). g.counts.refused) (are.figures.tasks.each k low)
      ∙ (λ j. (counts_of (map tick are.seen) j).refused)
      ∙ (counts_tell.0 (map tick are.seen)).refused.none
      (never S mode arrivals (λ (t : TaskTick). t.seen.refused) tick
      (λ i. (task_ticks S mode arrivals k i).seen.refused)
      (λ i o is. (λ j. (task_seen S mode arrivals are.proper i o is k low j).refused)) n
      are.seen are.ticks zeros)

  actions : (k : ℕ) → k < length S.alarms
      → IsZeroBefore (λ i. one_if (alarm_ticks S mode arrivals k i).seen.is_refused) n
      → (slice_index_or f.alarms k (alarm_figures [])).refused ≡ 0
  actions k low zeros =
      let tick = λ (o : Observation). alarm_tick o k in
      ap (λ (g : AlarmFigures). g.refused) (are.figures.alarms.each k low)
      ∙ (counts_tell.2 (map tick are.seen)).refused.none
      (never S mode arrivals (λ (a : AlarmTick). one_if a.seen.is_refused) tick
      (λ i. one_if (alarm_ticks S mode arrivals k i).seen.is_refused) alarm_same n are.seen
      are.ticks zeros)
    where
      alarm_same : (i : ℕ) (o : Observation) → IsTickOf S mode arrivals i o
          → one_if (alarm_tick o k).seen.is_refused
          ≡ one_if (alarm_ticks S mode arrivals k i).seen.is_refused
      alarm_same i o is =
          let seen : (alarm_tick o k).seen ≡ (alarm_ticks S mode arrivals k i).seen =
          ap (λ xs. slice_index_or xs k unseen_alarm)
          (shows S mode arrivals are.proper i o is).alarms
          ∙ table_at (alarm_seen_in (kept_tick_at S mode arrivals i))
          (length S.alarms) k unseen_alarm low in
          λ j. one_if (seen j).is_refused

  errors : (k : ℕ) → k < length S.tasks
      → IsZeroBefore (λ i. one_if (task_errors S mode arrivals k i)) n
      → (slice_index_or f.tasks k (task_figures [])).counts.errors ≡ 0
  errors k low zeros =
      let tick = λ (o : Observation). task_tick (levels_of S) o k in
      ap (λ (g : TaskFigures). g.counts.errors) (are.figures.tasks.each k low)
      ∙ (λ j. (counts_of (map tick are.seen) j).errors)
      ∙ (counts_tell.0 (map tick are.seen)).errors.none
      (never S mode arrivals (λ (t : TaskTick). one_if t.has_failed) tick
      (λ i. one_if (task_errors S mode arrivals k i))
      (λ i o is.
      let shown = shows S mode arrivals are.proper i o is in
      λ j. one_if (is_task (shown.executor j) k && is_error (shown.answered j))) n
      are.seen are.ticks zeros)

  routine_errors : (k : ℕ) → k < length S.routines
      → IsZeroBefore (λ i. one_if (routine_errors_at S mode arrivals k i)) n
      → (slice_index_or f.routines k (routine_figures [])).errors ≡ 0
  routine_errors k low zeros =
      let tick = λ (o : Observation). routine_tick o k in
      ap (λ (g : RoutineFigures). g.errors) (are.figures.routines.each k low)
      ∙ (counts_tell.1 (map tick are.seen)).errors.none
      (never S mode arrivals (λ (r : RoutineTick). one_if r.has_failed) tick
      (λ i. one_if (routine_errors_at S mode arrivals k i))
      (λ i o is.
      let shown = shows S mode arrivals are.proper i o is in
      λ j. one_if (is_routine (shown.executor j) k && is_error (shown.answered j))) n
      are.seen are.ticks zeros)

pub runs_have_none : RunsHaveNone
runs_have_none S mode arrivals n f are = record {
  losses = losses S mode arrivals n f are;
  refusals = refusals S mode arrivals n f are;
  actions = actions S mode arrivals n f are;
  errors = errors S mode arrivals n f are;
  routine_errors = routine_errors S mode arrivals n f are;
}
