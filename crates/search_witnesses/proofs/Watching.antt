-- Figures that are watched are those of the run.
use Rattle.std.proofs.Common.{ℕ, suc, ◌≡◌, ◌<◌, ◌≤◌, ◌+◌, ◌-◌, ◌^◌, Bool, true, false, List, [], ◌∷◌, map, length, refl, sym, ◌∙◌, ap, subst, arith, add-one, true≢false}
use Rattle.std.specs.Prelude.{◌||◌, IfSome, IsTrue, Option, Some, None, cond, nat_le, not, slice_index_or}
use Rattle.std.proofs.lemmas.Bool.{ltb-true}
use Rattle.osek_base.specs.declared.arrivals.Arrival.{Arrival}
use Rattle.osek_base.specs.declared.limits.TheConstants.{MAX_TICKS}
use Rattle.osek_base.specs.BlockingText.{blockers_at}
use Rattle.osek_base.specs.Proper.{IsProper}
use Rattle.osek_base.specs.System.{System}
use Rattle.osek_base.specs.Trace.{run}
use Rattle.seen_ticks.specs.declared.observation.Observation.{Observation}
use Rattle.seen_ticks.specs.Observed.{IsObserved}
use Rattle.kernel.specs.Progress.{Progress, is_over, run_of}
use Rattle.view_figures.specs.declared.alarm_figures.AlarmFigures.{AlarmFigures}
use Rattle.view_figures.specs.declared.resource_figures.ResourceFigures.{ResourceFigures}
use Rattle.view_figures.specs.declared.routine_figures.RoutineFigures.{RoutineFigures}
use Rattle.view_figures.specs.declared.task_figures.TaskFigures.{TaskFigures}
use Rattle.view_figures.specs.declared.task_tick.TaskTick.{TaskTick}
use Rattle.view_figures.specs.FigureSums.{AreFigures, RunFigures, is_task, levels_of, task_figures, task_tick}
use Rattle.view_figures.specs.RoutineSums.{routine_figures}
use Rattle.view_figures.specs.TaskSums.{more_blockers, most_blockers, task_counts}
use Rattle.view_measures.specs.declared.figure.Figure.{Figure}
use Rattle.view_measures.specs.declared.measure.Measure.{Measure}
use Rattle.view_measures.specs.Kinds.{count_of}
use Rattle.view_measures.specs.Measures.{is_of, kind_of}
use Rattle.law_figures.specs.Counts.{one_if}
use Rattle.law_figures.specs.Times.{response_time, routine_time}
use Rattle.law_bounds.specs.Showing.{Shows, has_come, most_blocked, number_or_none, ticks_of, value_by}
use Rattle.law_upper.proofs.Bare.{bare_task, task_errors_bare, task_refused_bare, task_responses_bare}
use Rattle.law_upper.proofs.Observed.{are_figures, figures_of}
use Rattle.search_witnesses.specs.declared.blocked.BlockedTicks.{BlockedTicks}
use Rattle.search_witnesses.specs.declared.watched.Watched.{Watched}
use Rattle.search_witnesses.specs.Blocked.{blocked_ticks}
use Rattle.search_witnesses.specs.Running.{IsWatched, Watches}
use Rattle.search_witnesses.specs.Watched.{AreWatched, bare_task_tick, shown_of}

-- ---- tick by tick

pub begun : (first : Progress) (k : ℕ) (w : Watched) → first.ticks ≡ 0
    → AreWatched (levels_of first.system) k [] w → IsWatched first first 0 k w
begun first k w none are = record {
  same = ap (λ n. record first { ticks = n }) none;
  watches = record { seen = []; ticks = tt; told = tt; are = are };
}

not_over : (b c : Bool) → true ≡ not (b || c) → c ≡ false
not_over b false is = refl
not_over true true is = absurd (true≢false is)
not_over false true is = absurd (true≢false is)

going : (first now : Progress) (n : ℕ) → now ≡ record first { ticks = n } → true ≡ not (is_over now)
    → (run first.system first.mode first.arrivals n).state.over ≡ false
going first now n same goes =
    ap (λ (r : Progress). (run_of r).state.over) (sym same)
    ∙ not_over (nat_le MAX_TICKS now.ticks) (run_of now).state.over goes

-- what is told where blockers are counted is the number of the tick
told_number : (told number : Option ℕ) → told ≡ number → IfSome told (λ m. number ≡ Some m)
told_number None number is = tt
told_number (Some m) number is = sym is

tells : (S : System) (mode : ℕ) (arrivals : List Arrival) (n : ℕ) (o : Observation)
    → IsObserved true S mode arrivals n o
    → IfSome o.blockers (λ m. blockers_at S mode arrivals o.tick ≡ Some m)
tells S mode arrivals n o at =
    told_number o.blockers (blockers_at S mode arrivals o.tick)
    (at.blockers refl ∙ ap (λ t. blockers_at S mode arrivals t) (sym at.number))

pub one_more : (first old new : Progress) (S : System) (n k : ℕ) (v w : Watched) (o : Observation)
    → first.system ≡ S → IsWatched first old n k v → true ≡ not (is_over old)
    → new ≡ record old { ticks = old.ticks + 1 }
    → (1 ≤ new.ticks
    → IsObserved true new.system new.mode new.arrivals (new.ticks - 1) o)
    → ((before : List Observation) → AreWatched (levels_of S) k before v
    → AreWatched (levels_of S) k (o ∷ before) w)
    → IsWatched first new (n + 1) k w
one_more first old new S n k v w o of is goes step observed more =
    let same : new ≡ record first { ticks = suc n } =
    step ∙ ap (λ (r : Progress). record r { ticks = r.ticks + 1 }) is.same
    ∙ ap (λ m. record first { ticks = m }) (add-one n) in
    let last : IsObserved true first.system first.mode first.arrivals (suc n - 1) o =
    subst
    (λ (r : Progress). 1 ≤ r.ticks → IsObserved true r.system r.mode r.arrivals (r.ticks - 1) o) same
    observed (omega arith) in
    let before : suc n - 1 ≡ n = omega arith in
    let at : IsObserved true first.system first.mode first.arrivals n o =
    subst (λ m. IsObserved true first.system first.mode first.arrivals m o) before last in
    subst (λ m. IsWatched first new m k w) (sym (add-one n))
    (record {
      same = same;
      watches = record {
        seen = o ∷ is.watches.seen;
        ticks = (
          record {
            number = at.number;
            going = going first old n is.same goes;
            seen = at.seen;
          },
          is.watches.ticks,
        );
        told = (tells first.system first.mode first.arrivals n o at, is.watches.told);
        are = subst
            (λ (T : System). AreWatched (levels_of T) k is.watches.seen v
            → AreWatched (levels_of T) k (o ∷ is.watches.seen) w)
            (sym of) (more is.watches.seen) is.watches.are;
      };
    })

-- a run that has gone on behind some ticks goes on for one more
pub goes_on : (first old new : Progress) (n more k : ℕ) (v w : Watched)
    → IsWatched first old (n + more) k v
    → (IsWatched first old (n + more) k v → IsWatched first new (n + more + 1) k w)
    → IsWatched first new (n + (more + 1)) k w
goes_on first old new n more k v w is step =
    subst (λ m. IsWatched first new m k w) (omega arith) (step is)

-- ---- what is shown

tasks_same : (levels : List ℕ) (k : ℕ) (seen : List Observation)
    → map bare_task (map (λ o. task_tick levels o k) seen)
    ≡ map bare_task (map (λ o. bare_task_tick o k) seen)
tasks_same levels k [] = refl
tasks_same levels k (o ∷ before) =
    ap (λ (ts : List TaskTick). bare_task (bare_task_tick o k) ∷ ts) (tasks_same levels k before)

-- numbers of blockers don't go by lower tasks that execute
blockers_of : (seen : List TaskTick) → (task_figures seen).counts.blockers ≡ most_blockers seen
unfolding task_figures task_counts
blockers_of seen = refl

most_same : (levels : List ℕ) (k : ℕ) (seen : List Observation)
    → most_blockers (map (λ o. task_tick levels o k) seen)
    ≡ most_blockers (map (λ o. bare_task_tick o k) seen)
most_same levels k [] = refl
most_same levels k (o ∷ before) =
    ap (more_blockers (cond (is_task o.executor k) o.blockers None)) (most_same levels k before)

module _ (S : System) (seen : List Observation) (f : RunFigures) (are : AreFigures S seen f)
    (w : Watched) (over : Bool) (ends : w.is_over ≡ over) where
  responses : (k : ℕ) → AreWatched (levels_of S) k seen w → k < length S.tasks
      → (slice_index_or f.tasks k (task_figures [])).responses ≡ w.task.responses
  responses k watched low =
      ap (λ (g : TaskFigures). g.responses) (are.tasks.each k low)
      ∙ task_responses_bare (map (λ o. task_tick (levels_of S) o k) seen)
      (map (λ o. bare_task_tick o k) seen) (tasks_same (levels_of S) k seen)
      ∙ sym (ap (λ (g : TaskFigures). g.responses) watched.task)

  refused : (k : ℕ) → AreWatched (levels_of S) k seen w → k < length S.tasks
      → (slice_index_or f.tasks k (task_figures [])).counts.refused ≡ w.task.counts.refused
  refused k watched low =
      ap (λ (g : TaskFigures). g.counts.refused) (are.tasks.each k low)
      ∙ task_refused_bare (map (λ o. task_tick (levels_of S) o k) seen)
      (map (λ o. bare_task_tick o k) seen) (tasks_same (levels_of S) k seen)
      ∙ sym (ap (λ (g : TaskFigures). g.counts.refused) watched.task)

  errors : (k : ℕ) → AreWatched (levels_of S) k seen w → k < length S.tasks
      → (slice_index_or f.tasks k (task_figures [])).counts.errors ≡ w.task.counts.errors
  errors k watched low =
      ap (λ (g : TaskFigures). g.counts.errors) (are.tasks.each k low)
      ∙ task_errors_bare (map (λ o. task_tick (levels_of S) o k) seen)
      (map (λ o. bare_task_tick o k) seen) (tasks_same (levels_of S) k seen)
      ∙ sym (ap (λ (g : TaskFigures). g.counts.errors) watched.task)

  blockers : (k : ℕ) → AreWatched (levels_of S) k seen w → k < length S.tasks
      → (slice_index_or f.tasks k (task_figures [])).counts.blockers ≡ w.task.counts.blockers
  blockers k watched low =
      ap (λ (g : TaskFigures). g.counts.blockers) (are.tasks.each k low)
      ∙ blockers_of (map (λ o. task_tick (levels_of S) o k) seen)
      ∙ most_same (levels_of S) k seen
      ∙ sym (blockers_of (map (λ o. bare_task_tick o k) seen))
      ∙ sym (ap (λ (g : TaskFigures). g.counts.blockers) watched.task)

  routine : (k : ℕ) → AreWatched (levels_of S) k seen w → k < length S.routines
      → slice_index_or f.routines k (routine_figures []) ≡ w.routine
  routine k watched low = are.routines.each k low ∙ sym watched.routine

  last : (k : ℕ) → AreWatched (levels_of S) k seen w → f.last ≡ w.last
  last k watched = are.last ∙ sym watched.last

  blocked : (k : ℕ) → AreWatched (levels_of S) k seen w
      → most_blocked f.levels k seen ≡ w.blocked.most
  unfolding blocked_ticks
  blocked k watched =
      ap (λ levels. most_blocked levels k seen) are.levels
      ∙ sym (ap (λ (b : BlockedTicks). b.most) watched.blocked)

  value_same : (measure : Measure) (k : ℕ) → AreWatched (levels_of S) k seen w
      → k < count_of S (kind_of measure) → value_by f seen over measure k ≡ shown_of w measure
  value_same Measure.Response k watched low = λ i.
      ticks_of (response_time (last k watched i) (responses k watched low i))
  value_same Measure.Blocked k watched low = blocked k watched
  value_same Measure.Blockers k watched low = ap number_or_none (blockers k watched low)
  value_same Measure.Jobs k watched low = sym watched.jobs
  value_same Measure.Refusal k watched low = ap (λ n. has_come n) (refused k watched low)
  value_same Measure.Errors k watched low = ap (λ n. has_come n) (errors k watched low)
  value_same Measure.Latency k watched low = λ i.
      ticks_of (routine_time (last k watched i) (routine k watched low i))
  value_same Measure.Loss k watched low =
      ap (λ (g : RoutineFigures). has_come g.losses) (routine k watched low)
  value_same Measure.RoutineErrors k watched low =
      ap (λ (g : RoutineFigures). has_come g.errors) (routine k watched low)
  value_same Measure.Hold k watched low =
      ap (λ (g : ResourceFigures). ticks_of g.longest)
      (are.resources.each k low ∙ sym watched.resource)
  value_same Measure.RefusedAction k watched low =
      ap (λ (g : AlarmFigures). has_come g.refused) (are.alarms.each k low ∙ sym watched.alarm)
  value_same Measure.Shutdown k watched low = ap one_if (sym ends)

-- what was watched of a run is what its figures show
pub shows : (S : System) (mode : ℕ) (arrivals : List Arrival) (n : ℕ) (figure : Figure)
    (w : Watched) → IsProper S → n ≤ 2 ^ 32 → IsTrue (is_of S figure)
    → Watches S mode arrivals n figure.number w
    → Shows S mode arrivals n figure (shown_of w figure.measure)
shows S mode arrivals n figure w proper small of watches = record {
  figures = figures_of S watches.figures.seen;
  are = record {
    seen = watches.figures.seen;
    proper = proper;
    small = small;
    ticks = watches.figures.ticks;
    figures = are_figures S watches.figures.seen;
  };
  told = watches.figures.told;
  of = of;
  shown =
      value_same S watches.figures.seen (figures_of S watches.figures.seen)
      (are_figures S watches.figures.seen) w (run S mode arrivals n).state.over watches.over
      figure.measure figure.number watches.figures.are (ltb-true _ _ of);
}

-- the same, of a run that was begun with this system, this mode and these arrivals
pub begun_shows : (S : System) (mode : ℕ) (arrivals : List Arrival) (n : ℕ) (figure : Figure)
    (first : Option Progress) (r : Progress) (w : Watched) (value : ℕ) → IsProper S → n < 2 ^ 32
    → IsTrue (is_of S figure)
    → IfSome first (λ (x : Progress). (x.system ≡ S) × (x.mode ≡ mode) × (x.arrivals ≡ arrivals)
    × (x.ticks ≡ 0))
    → first ≡ Some r → Watches r.system r.mode r.arrivals n figure.number w
    → value ≡ shown_of w figure.measure → Shows S mode arrivals n figure value
begun_shows S mode arrivals n figure first r w value proper small of made is watches told =
    let same : (r.system ≡ S) × (r.mode ≡ mode) × (r.arrivals ≡ arrivals) × (r.ticks ≡ 0) =
    subst
    (λ o. IfSome o (λ (x : Progress). (x.system ≡ S) × (x.mode ≡ mode) × (x.arrivals ≡ arrivals)
    × (x.ticks ≡ 0)))
    is made in
    let of_system : Watches S r.mode r.arrivals n figure.number w =
    subst (λ x. Watches x r.mode r.arrivals n figure.number w) same.0 watches in
    let in_mode : Watches S mode r.arrivals n figure.number w =
    subst (λ x. Watches S x r.arrivals n figure.number w) same.1 of_system in
    let under : Watches S mode arrivals n figure.number w =
    subst (λ x. Watches S mode x n figure.number w) same.2 in_mode in
    subst (λ v. Shows S mode arrivals n figure v) (sym told)
    (shows S mode arrivals n figure w proper (omega (arith, small)) of under)
