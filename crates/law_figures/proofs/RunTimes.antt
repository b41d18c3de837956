-- The longest times of a run, ended or not, are within a bound where no label shows more.
use Rattle.std.proofs.Common.{ℕ, ◌≡◌, ◌<◌, ◌≤◌, ◌^◌, List, [], ◌∷◌, map, length, refl, sym, ◌∙◌, ap, subst}
use Rattle.std.specs.Prelude.{slice_index_or}
use Rattle.osek_base.specs.declared.arrivals.Arrival.{Arrival}
use Rattle.osek_base.specs.System.{System}
use Rattle.seen_ticks.specs.declared.observation.Observation.{Observation}
use Rattle.view_figures.specs.declared.task_tick.TaskTick.{TaskTick}
use Rattle.view_figures.specs.declared.routine_figures.RoutineTick.{RoutineTick}
use Rattle.view_figures.specs.declared.routine_figures.RoutineFigures.{RoutineFigures}
use Rattle.view_figures.specs.declared.task_figures.TaskFigures.{TaskFigures}
use Rattle.view_figures.specs.FigureSums.{RunFigures, last_tick, levels_of, routine_tick, task_figures, task_tick}
use Rattle.view_figures.specs.Reaching.{worse_of}
use Rattle.view_figures.specs.ResponseSums.{Responses, oldest_response, response_figures, spread}
use Rattle.view_figures.specs.RoutineSums.{pending_age, routine_figures}
use Rattle.law_figures.specs.Labels.{IsWithin, NoneShowsMore}
use Rattle.law_figures.specs.Ages.{ages, oldest_age, tick_of}
use Rattle.law_figures.specs.Pending.{pending, tick_of as routine_tick_of}
use Rattle.law_figures.specs.Times.{response_time, routine_time, waited}
use Rattle.law_figures.proofs.Times.{task_times_are_ages, routine_times_are_ages}
use Rattle.law_figures.specs.RunFigures.{AreTicksOf, AreRunFigures, NoneMoreBefore, RunsStayWithin, routine_ticks, task_ticks}
use Rattle.law_figures.proofs.Running.{all_small, holds_within, latencies_within, none_more, numbered, responses_of, responses_within, routine_agrees, task_agrees}

-- ---- of nothing seen, and of some ticks

no_response : (last m : ℕ) → IsWithin m (worse_of (response_figures []).spread.greatest
    (oldest_response last (response_figures []).ready_since))
unfolding response_figures spread
no_response last m = tt

no_latency : (last m : ℕ) → IsWithin m (worse_of (routine_figures []).latency
    (pending_age last (routine_figures []).pending_since))
unfolding routine_figures
no_latency last m = tt

module _ (S : System) (mode : ℕ) (arrivals : List Arrival) (n k m : ℕ) where
  abbrev task_now : Observation → TaskTick
  task_now o = task_tick (levels_of S) o k

  abbrev routine_now : Observation → RoutineTick
  routine_now o = routine_tick o k

  task_seen_within : (seen : List Observation) → AreTicksOf S mode arrivals n seen
      → NoneShowsMore ages oldest_age m (map task_now seen)
      → IsWithin m (worse_of (response_figures (map task_now seen)).spread.greatest
      (oldest_response (last_tick seen) (response_figures (map task_now seen)).ready_since))
  task_seen_within [] are none = no_response 0 m
  task_seen_within (o ∷ before) are none =
      (task_times_are_ages (task_now o) (map task_now before)
      (numbered S mode arrivals tick_of task_now (λ o. refl) n (o ∷ before) are)).within m none

  routine_seen_within : (seen : List Observation) → AreTicksOf S mode arrivals n seen → n ≤ 2 ^ 32
      → NoneShowsMore pending waited m (map routine_now seen)
      → IsWithin m (worse_of (routine_figures (map routine_now seen)).latency
      (pending_age (last_tick seen) (routine_figures (map routine_now seen)).pending_since))
  routine_seen_within [] are small none = no_latency 0 m
  routine_seen_within (o ∷ before) are small none =
      (routine_times_are_ages (routine_now o) (map routine_now before)
      (numbered S mode arrivals routine_tick_of routine_now (λ o. refl) n (o ∷ before) are)
      (all_small S mode arrivals routine_tick_of routine_now (λ o. refl) n
      (o ∷ before) are small)).within m none

-- ---- the law

module _ (S : System) (mode : ℕ) (arrivals : List Arrival) (n : ℕ) (f : RunFigures)
    (are : AreRunFigures S mode arrivals n f) where
  times_within : (k m : ℕ) → k < length S.tasks
      → NoneMoreBefore ages oldest_age (task_ticks S mode arrivals k) m n
      → IsWithin m (response_time f.last (slice_index_or f.tasks k (task_figures [])).responses)
  times_within k m low none =
      let tick = λ (o : Observation). task_tick (levels_of S) o k in
      let seen : List TaskTick = map tick are.seen in
      let same : (slice_index_or f.tasks k (task_figures [])).responses ≡ response_figures seen =
      ap (λ (g : TaskFigures). g.responses) (are.figures.tasks.each k low)
      ∙ responses_of seen in
      let within : IsWithin m (worse_of (response_figures seen).spread.greatest
      (oldest_response (last_tick are.seen) (response_figures seen).ready_since)) =
      task_seen_within S mode arrivals n k m are.seen are.ticks
      (none_more S mode arrivals ages oldest_age tick (task_ticks S mode arrivals k)
      (λ i o is old. (task_agrees S mode arrivals are.proper i o is k low old).next)
      (λ i o is old. (task_agrees S mode arrivals are.proper i o is k low old).oldest)
      m n are.seen are.ticks none) in
      subst
      (λ last. IsWithin m (response_time last (slice_index_or f.tasks k (task_figures [])).responses))
      (sym are.figures.last)
      (subst (λ (r : Responses). IsWithin m
      (worse_of r.spread.greatest (oldest_response (last_tick are.seen) r.ready_since)))
      (sym same) within)

  waits_within : (k m : ℕ) → k < length S.routines
      → NoneMoreBefore pending waited (routine_ticks S mode arrivals k) m n
      → IsWithin m (routine_time f.last (slice_index_or f.routines k (routine_figures [])))
  waits_within k m low none =
      let tick = λ (o : Observation). routine_tick o k in
      let within : IsWithin m (routine_time (last_tick are.seen)
      (routine_figures (map tick are.seen))) =
      routine_seen_within S mode arrivals n k m are.seen are.ticks are.small
      (none_more S mode arrivals pending waited tick (routine_ticks S mode arrivals k)
      (λ i o is age. (routine_agrees S mode arrivals are.proper i o is k low age).next)
      (λ i o is age. (routine_agrees S mode arrivals are.proper i o is k low age).waited)
      m n are.seen are.ticks none) in
      subst (λ last. IsWithin m (routine_time last
      (slice_index_or f.routines k (routine_figures [])))) (sym are.figures.last)
      (subst (λ (g : RoutineFigures). IsWithin m (routine_time (last_tick are.seen) g))
      (sym (are.figures.routines.each k low)) within)

pub runs_stay_within : RunsStayWithin
runs_stay_within S mode arrivals n f are = record {
  responses = responses_within S mode arrivals n f are;
  latencies = latencies_within S mode arrivals n f are;
  holds = holds_within S mode arrivals n f are;
  times = times_within S mode arrivals n f are;
  waits = waits_within S mode arrivals n f are;
}
