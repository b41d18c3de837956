-- What a tick shows is noted: of one thing, and of all.
use Rattle.std.proofs.Common.{ℕ, ◌≡◌, ◌||◌, Bool, false, List, [], ◌∷◌, IsTrue, Option, Some, min, length, ◌∙◌, ap, subst, arith, ltb-true}
use Rattle.std.specs.Option.{option_map}
use Rattle.seen_ticks.specs.declared.observation.Observation.{Observation}
use Rattle.seen_ticks.specs.Seen.{seen_of}
use Rattle.view_figures.specs.FigureSums.{lower_executes}
use Rattle.view_figures.specs.declared.resource_figures.HolderTick.{HolderTick}
use Rattle.view_figures.specs.declared.routine_figures.RoutineTick.{RoutineTick}
use Rattle.view_figures.specs.declared.task_tick.TaskTick.{TaskTick}
use Rattle.view_measures.specs.declared.figure.Figure.{Figure}
use Rattle.view_measures.specs.declared.kind.Kind.{Kind}
use Rattle.view_measures.specs.declared.measure.Measure.{Measure}
use Rattle.view_measures.specs.Measures.{figure}
use Rattle.law_figures.specs.Ages.{oldest_age}
use Rattle.law_figures.specs.Blocking.{blocked_in}
use Rattle.law_figures.specs.Counts.{one_if}
use Rattle.law_figures.specs.Holding.{held_ticks}
use Rattle.law_figures.specs.Labels.{IsAtMost}
use Rattle.law_figures.specs.Times.{waited}
use Rattle.search_labels.specs.Labels.{Labels, ages_of, blocked_of, hold_of, pending_of}
use Rattle.search_labels.specs.Ticks.{holder_tick, ready_tick, routine_tick}
use Rattle.search_labels.proofs.BlockedLemmas.{ready_in}
use Rattle.search_peaks.specs.Noting.{TickShown, blocked_ticks, is_seen, reading, shown_by}
use Rattle.search_peaks.specs.Peaks.{number_in}
use Rattle.search_peaks.specs.Raising.{AreErrorsNoted, IsAllNoted, IsNotedBelow, IsNotedOf, Raises, noted_of}
use Rattle.search_peaks.proofs.PeakLemmas.{first_measure, measure_more}

-- a figure has what is shown
abbrev pub IsIn : Measure → ℕ → Option ℕ → List ℕ → Type 0
IsIn m k shown numbers = IsAtMost (number_in numbers (figure m k)) shown

-- ---- what is raised is what the reading tells

module _ (levels : List ℕ) (cap : ℕ) (o : Observation) (l : Labels) (k : ℕ) where
  abbrev shown : Figure → Option ℕ
  shown = reading levels cap (shown_by o false) l

  abbrev ready : TaskTick
  ready = ready_tick (lower_executes levels o.executor) (seen_of o) k

  pub task_noted : (tick : TaskTick) (age : Option ℕ) (ticks least jobs refused : ℕ)
      (old a b c d new : List ℕ) (p q r s u : Bool)
      → tick ≡ ready
      → age ≡ option_map (min cap) (oldest_age tick (ages_of l k))
      → ticks ≡ min cap (blocked_in tick (blocked_of l k)) → least ≡ min 1 ticks
      → jobs ≡ tick.seen.jobs → refused ≡ min 1 tick.seen.refused
      → Raises (IsIn Measure.Refusal k (Some refused)) old a p
      → Raises (IsIn Measure.Jobs k (Some jobs)) a b q
      → Raises (IsIn Measure.Blockers k (Some least)) b c r
      → Raises (IsIn Measure.Blocked k (Some ticks)) c d s
      → Raises (IsIn Measure.Response k age) d new u
      → Raises (IsNotedOf shown (noted_of Kind.Task) k) old new ((((p || q) || r) || s) || u)
  task_noted tick age ticks least jobs refused old a b c d new p q r s u same aged blocked once
      many some refusal job blocker block response =
      let exact : ticks ≡ blocked_ticks levels cap (shown_by o false) l k =
      blocked ∙ ap (λ (t : TaskTick). min cap (blocked_in t (blocked_of l k))) same
      ∙ ap (min cap) (ready_in (lower_executes levels o.executor) (seen_of o) k (blocked_of l k)) in
      let of_age : age ≡ shown (figure Measure.Response k) =
      aged ∙ ap (λ (t : TaskTick). option_map (min cap) (oldest_age t (ages_of l k))) same in
      let counts : List Measure = Measure.Jobs ∷ Measure.Refusal ∷ [] in
      let blockers : List Measure = Measure.Blockers ∷ counts in
      measure_more shown Measure.Response (Measure.Blocked ∷ blockers) k age old d new _ u of_age
      (measure_more shown Measure.Blocked blockers k _ old c d _ s (ap (λ n. Some n) exact)
      (measure_more shown Measure.Blockers counts k _ old b c _ r
      (ap (λ n. Some n) (once ∙ ap (min 1) exact))
      (measure_more shown Measure.Jobs (Measure.Refusal ∷ []) k _ old a b p q
      (ap (λ n. Some n) (many ∙ ap (λ (t : TaskTick). t.seen.jobs) same))
      (first_measure shown Measure.Refusal k _ old a p
      (ap (λ n. Some n) (some ∙ ap (λ (t : TaskTick). min 1 t.seen.refused) same)) refusal) job)
      blocker) block) response

module _ (cap : ℕ) (o : Observation) (l : Labels) (i : ℕ) where
  abbrev shown_of : Figure → Option ℕ
  shown_of = reading [] cap (shown_by o false) l

  pub routine_noted : (tick : RoutineTick) (wait : Option ℕ) (lost : ℕ) (old now new : List ℕ)
      (p q : Bool) → tick ≡ routine_tick (seen_of o) i
      → wait ≡ option_map (min cap) (waited tick (pending_of l i)) → lost ≡ min 1 tick.seen.lost
      → Raises (IsIn Measure.Loss i (Some lost)) old now p
      → Raises (IsIn Measure.Latency i wait) now new q
      → Raises (IsNotedOf shown_of (noted_of Kind.Routine) i) old new (p || q)
  routine_noted tick wait lost old now new p q same waits some loss latency =
      measure_more shown_of Measure.Latency (Measure.Loss ∷ []) i wait old now new p q
      (waits ∙ ap (λ (t : RoutineTick). option_map (min cap) (waited t (pending_of l i))) same)
      (first_measure shown_of Measure.Loss i _ old now p
      (ap (λ n. Some n) (some ∙ ap (λ (t : RoutineTick). min 1 t.seen.lost) same)) loss) latency

module _ (cap : ℕ) (o : Observation) (l : Labels) (r : ℕ) where
  pub hold_is : (tick : HolderTick) (held : Option ℕ) → tick ≡ holder_tick (seen_of o) r
      → held ≡ option_map (min cap) (held_ticks tick (hold_of l r))
      → held ≡ reading [] cap (shown_by o false) l (figure Measure.Hold r)
  hold_is tick held same holds =
      holds ∙ ap (λ (t : HolderTick). option_map (min cap) (held_ticks t (hold_of l r))) same

-- ---- all that is seen

module _ (levels : List ℕ) (cap : ℕ) (t : TickShown) (l : Labels) (numbers : List ℕ) where
  abbrev AllOf : Kind → ℕ → Type 0
  AllOf kind n = IsNotedBelow (reading levels cap t l) (noted_of kind) n numbers

  pub all_noted : AllOf Kind.Task (length t.seen.tasks) → AllOf Kind.Routine (length t.seen.routines)
      → AllOf Kind.Resource (length t.seen.holders) → AllOf Kind.Alarm (length t.seen.alarms)
      → AreErrorsNoted t.failure numbers → IsIn Measure.Shutdown 0 (Some (one_if t.over)) numbers
      → IsAllNoted (reading levels cap t l) t.seen numbers
  all_noted tasks routines holders alarms errors over f = each f.measure f.number
    where
      each : (m : Measure) (k : ℕ) → IsTrue (is_seen t.seen (figure m k))
          → IsAtMost (number_in numbers (figure m k)) (reading levels cap t l (figure m k))
      each Measure.Response k seen = (tasks k (ltb-true k _ seen)).0
      each Measure.Blocked k seen = (tasks k (ltb-true k _ seen)).1.0
      each Measure.Blockers k seen = (tasks k (ltb-true k _ seen)).1.1.0
      each Measure.Jobs k seen = (tasks k (ltb-true k _ seen)).1.1.1.0
      each Measure.Refusal k seen = (tasks k (ltb-true k _ seen)).1.1.1.1.0
      each Measure.Errors k seen = errors.tasks k
      each Measure.Latency k seen = (routines k (ltb-true k _ seen)).0
      each Measure.Loss k seen = (routines k (ltb-true k _ seen)).1.0
      each Measure.RoutineErrors k seen = errors.routines k
      each Measure.Hold k seen = (holders k (ltb-true k _ seen)).0
      each Measure.RefusedAction k seen = (alarms k (ltb-true k _ seen)).0
      each Measure.Shutdown k seen =
          let e : 0 ≡ k = omega (arith, ltb-true k 1 seen) in
          subst (λ i. IsIn Measure.Shutdown i (Some (one_if t.over)) numbers) e over
