-- What is seen of routines and alarms in a tick in which nothing comes to any.
use Rattle.std.proofs.Common.{◌≡◌, ℕ, ◌-◌, Bool, true, false, List, [], map, length, refl, sym, ◌∙◌, ap}
use Rattle.std.specs.Prelude.{Some, not, ◌&&◌}
use Rattle.std.proofs.Math.Path.{fun_ext}
use Rattle.seen_ticks.specs.declared.observation.Observation.{Observation}
use Rattle.osek_base.specs.declared.executed.Executed.{Executed}
use Rattle.osek_base.specs.declared.ids.Owner.{Owner}
use Rattle.osek_base.specs.declared.trace_event.TraceEvent.{TraceEvent}
use Rattle.osek_base.specs.Alarm.{alarms_advanced}
use Rattle.osek_base.specs.Lists.{below, same_owner}
use Rattle.osek_base.specs.System.{System}
use Rattle.law_kept.specs.Kept.{Kept}
use Rattle.osek_base.specs.State.{State}
use Rattle.kernel.specs.Progress.{HasRunSteadily, Progress, run_of}
use Rattle.seen_ticks.specs.Observed.{IsSeen, Ticked, active_routine, alarm_seen, is_among, is_by, is_number, is_pending, lost_of, routine_seen, tick_at, times}
use Rattle.seen_ticks.proofs.Staying.{pending_stays}
use Rattle.seen_ticks.proofs.Telling.{executed_told}
use Rattle.seen_ticks.specs.Told.{refused_of}
use Rattle.seen_runs.proofs.Seeing.{one_on}
use Rattle.seen_runs.specs.Keeping.{HasGoneSteadily, last_tick}
use Rattle.seen_runs.specs.Resting.{AreAtRest, IsRest, resting_alarm, resting_routine}

none_lost : (was_pending : Bool) → lost_of was_pending 0 ≡ 0
none_lost true = refl
none_lost false = refl

module _ (k : Ticked) (rest : IsRest k) where
  routine_rests : (i : ℕ) → routine_seen k i ≡ resting_routine k.at.pending i
  routine_rests i = λ j. record {
    executes = rest.no_routine i j;
    is_pending = is_pending k.at i;
    is_started = rest.no_routine i j && not (is_number i (active_routine k.before));
    arrived = times i (rest.none_arrive j);
    lost = (ap (λ v. lost_of (is_pending k.before i) (times i v)) rest.none_arrive ∙ none_lost (is_pending k.before i)) j;
  }

  alarm_rests : (a : ℕ) → alarm_seen k a ≡ resting_alarm a
  alarm_rests a = λ j. record {
    has_expired = is_among (rest.none_due j) a;
    is_refused = is_among (rest.none_refused j) a;
  }

  pub routines_rest : (n : ℕ) → map (routine_seen k) (below n) ≡ map (resting_routine k.at.pending) (below n)
  routines_rest n = ap (λ f. map f (below n)) (fun_ext routine_rests)

  pub alarms_rest : (n : ℕ) → map (alarm_seen k) (below n) ≡ map resting_alarm (below n)
  alarms_rest n = ap (λ f. map f (below n)) (fun_ext alarm_rests)

-- and so it stands behind the tick, too
pub rested : (r : Progress) (o : Observation) → IsRest (last_tick r) → IsSeen r.system (last_tick r) o
    → (run_of r).state ≡ (last_tick r).after → AreAtRest r.system (run_of r).state.pending o
rested r o rest seen behind =
    let pending : (last_tick r).at.pending ≡ (run_of r).state.pending =
    sym (pending_stays r.system r.mode r.arrivals (r.ticks - 1)) ∙ sym (ap (λ (s : State). s.pending) behind) in
    record {
      routines =
          seen.routines ∙ routines_rest (last_tick r) rest (length r.system.routines)
          ∙ ap (λ v. map (resting_routine v) (below (length r.system.routines))) pending;
      alarms = seen.alarms ∙ alarms_rest (last_tick r) rest (length r.system.alarms);
    }

-- nothing comes to any in a tick in which nothing comes before the instruction of the running task
pub rests_steadily : (old new : Progress) (e : Executed) (behind : List TraceEvent) → HasRunSteadily old new e behind
    → HasGoneSteadily old new
rests_steadily old new e behind steady =
    let S : System = old.system in
    let told = executed_told S [] behind (Some e) old.mode old.arrivals old.ticks steady.ran.records in
    let s : State = (run_of old).state in
    record {
      next = steady.ran.next;
      not_first = steady.not_first;
      rest =
          one_on old new (λ S mode arrivals n. IsRest (tick_at S mode arrivals n)) steady.ran.next
          (record {
            none_due = steady.none_due;
            none_refused = ap (λ due. refused_of S due (record s { alarms = alarms_advanced S s })) steady.none_due;
            none_arrive = steady.none_arrive;
            no_routine = λ i. ap (is_by (Owner.Routine i)) (sym told) ∙ ap (same_owner (Owner.Routine i)) steady.who;
            pending = ap (λ (x : Kept). x.pending) steady.at;
          });
      at = steady.at;
    }
