-- In phases 1 to 4 of a tick jobs of a task begin to stand behind those that do.
use Rattle.std.proofs.Common.{◌≡◌, ℕ, ◌<◌, Bool, true, false, cond, List, [], ◌∷◌, length, refl, sym, subst}
use Rattle.std.specs.Prelude.{Option, Some, None, bit_or, slice_index}
use Rattle.std.specs.List.{AllByRecursion}
use Rattle.osek_base.specs.declared.instr.Service.{Service}
use Rattle.osek_base.specs.declared.status.Status.{Status}
use Rattle.osek_base.specs.declared.task.Action.{Action}
use Rattle.osek_base.specs.Activation.{activated, released}
use Rattle.osek_base.specs.Alarm.{alarms_advanced, due_alarms, is_due}
use Rattle.osek_base.specs.Choice.{choice}
use Rattle.osek_base.specs.Lists.{below}
use Rattle.osek_base.specs.Proper.{IsProper}
use Rattle.osek_base.specs.Reschedule.{reschedule, switched, with_dispatch_of}
use Rattle.osek_base.specs.Service.{NobodyCalls, first_refusal, is_met, refusals, released_by, reply_to, unasked_service, with_events}
use Rattle.osek_base.specs.State.{Job, State, jobs_of, may_dispatch, same_id, waits}
use Rattle.osek_base.specs.System.{System, alarm}
use Rattle.osek_base.specs.Tick.{action_call, alarm_acts, alarm_phase, alarms_act, arrival_phase, before_execution, start_phase}
use Rattle.law_runs.proofs.Known.{all_below, met_waits}
use Rattle.law_runs.proofs.Lists.{all_kept, all_weaker}
use Rattle.law_runs.proofs.RankedTick.{IsRunState, action_run}
use Rattle.law_runs.proofs.Single.{IsSingle, IsSoundJob}
use Rattle.law_runs.proofs.SingleTick.{alarm_known}
use Rattle.law_blockers.proofs.NewJobs.{unmade}
use Rattle.law_blockers.proofs.PreemptLemmas.{entered_are, entering, entering_id, entering_waits}
use Rattle.law_blockers.proofs.RestampedLemmas.{only_job, released_jobs, those_of}
use Rattle.law_jobs.proofs.Lists.{AreSame, Grows, grows_both, grows_made, grows_released, grows_same, same_jobs, same_mapped}

-- the id of a new job is no other job's
pub new_apart : (S : System) (t : ℕ) (s : State) → IsSingle S s
    → AllByRecursion
    (λ (j : Job). same_id j.id (record { task = t; serial = slice_index s.made t }) ≡ false) s.jobs
new_apart S t s single =
    all_weaker (IsSoundJob S s.made)
    (λ j. same_id j.id (record { task = t; serial = slice_index s.made t }) ≡ false) s.jobs
    (unmade S s 0 t (λ n. None) single) single.each

module _ (S : System) (k : ℕ) where
  pub grows_activated : (t : ℕ) (s : State) → IsSingle S s → Grows k s.jobs (activated S t s).jobs
  unfolding activated
  grows_activated t s single =
      grows_made k (record { task = t; serial = slice_index s.made t }) s.jobs
      (new_apart S t s single)

  pub grows_set : (t set : ℕ) (s : State) → IsSingle S s
      → Grows k s.jobs (released_by set (jobs_of t s.jobs) (with_events t set s)).jobs
  grows_set t set s single = go (jobs_of t s.jobs) refl
    where
      go : (js : List Job) → jobs_of t s.jobs ≡ js
          → Grows k s.jobs (released_by set js (with_events t set s)).jobs
      go [] are = grows_same k s.jobs s.jobs (same_jobs k s.jobs s.jobs refl)
      go (j ∷ js) are = pick (is_met set j.waits_for) refl
        where
          pick : (b : Bool) → is_met set j.waits_for ≡ b
              → Grows k s.jobs
              (cond b (released j.id (with_events t set s)) (with_events t set s)).jobs
          pick false met = grows_same k s.jobs s.jobs (same_jobs k s.jobs s.jobs refl)
          pick true met =
              let waiting : waits j ≡ true = met_waits set j.waits_for met in
              subst (Grows k s.jobs)
              (sym (released_jobs S (with_events t set s) single t j js are waiting))
              (grows_released S k j s.jobs waiting (only_job S s single t j js are waiting)
              (those_of S s single t j js are waiting))

  -- ---- alarms

  action_grows : (act : Action) (s : State) → IsSingle S s
      → Grows k s.jobs (unasked_service S NobodyCalls s (action_call act)).state.jobs
  unfolding unasked_service
  action_grows (Action.ActivateTask t) s single =
      go (first_refusal (refusals S NobodyCalls s (Service.ActivateTask (Some t))))
    where
      go : (o : Option Status)
          → Grows k s.jobs (reply_to S NobodyCalls s (Service.ActivateTask (Some t)) o).state.jobs
      go None = grows_activated t s single
      go (Some refusal) = grows_same k s.jobs s.jobs (same_jobs k s.jobs s.jobs refl)
  action_grows (Action.SetEvent t m) s single =
      go (first_refusal (refusals S NobodyCalls s (Service.SetEvent (Some t) m)))
    where
      go : (o : Option Status)
          → Grows k s.jobs (reply_to S NobodyCalls s (Service.SetEvent (Some t) m) o).state.jobs
      go None = grows_set t (bit_or (slice_index s.masks t) m) s single
      go (Some refusal) = grows_same k s.jobs s.jobs (same_jobs k s.jobs s.jobs refl)

  module _ (proper : IsProper S) where
    alarms_grow : (due : List ℕ) → AllByRecursion (λ a. a < length S.alarms) due → (s : State)
        → IsRunState S s → Grows k s.jobs (alarms_act S due s).state.jobs
    alarms_grow [] all s good = grows_same k s.jobs s.jobs (same_jobs k s.jobs s.jobs refl)
    alarms_grow (a ∷ due) all s good =
        let acted : State = (alarm_acts S a s).state in
        grows_both k s.jobs (alarm_acts S a s).state.jobs
        (alarms_act S due (alarm_acts S a s).state).state.jobs
        (action_grows (alarm S a).action s good.single)
        (alarms_grow due all.1 (alarm_acts S a s).state
        (action_run S proper s (alarm S a).action (alarm_known S a proper all.0) good))

    pub alarm_phase_grows : (s : State) → IsRunState S s
        → Grows k s.jobs (alarm_phase S s).state.jobs
    unfolding alarm_phase
    alarm_phase_grows s good =
        alarms_grow (due_alarms S s)
        (all_kept (λ a. a < length S.alarms) (is_due S s) (below (length S.alarms))
        (all_below (length S.alarms)))
        (record s { alarms = alarms_advanced S s })
        (record { single = good.single; ordered = good.ordered })

  -- ---- a reschedule, and the start of a routine

  pub reschedule_same : (s : State) → AreSame k s.jobs (reschedule S s).state.jobs
  unfolding reschedule
  reschedule_same s = go (may_dispatch s)
    where
      go : (b : Bool)
          → AreSame k s.jobs
          (with_dispatch_of s
          (cond b (switched S (choice S s.jobs) s) (record { events = []; state = s }))).state.jobs
      go true =
          subst (AreSame k s.jobs) (sym (entered_are S (choice S s.jobs) s.jobs))
          (same_mapped k (entering S (choice S s.jobs)) (entering_id S (choice S s.jobs))
          (entering_waits S (choice S s.jobs)) s.jobs)
      go false = same_jobs k s.jobs s.jobs refl

  start_same : (s : State) → AreSame k s.jobs (start_phase S s).jobs
  unfolding start_phase
  start_same s = same_jobs k s.jobs s.jobs refl

  -- ---- phases 1 to 4

  pub before_grows : (proper : IsProper S) (arrived : List ℕ) (s : State) → IsRunState S s
      → Grows k s.jobs (before_execution S arrived s).state.jobs
  before_grows proper arrived s good =
      let acted : State = (alarm_phase S s).state in
      let flagged : State = arrival_phase arrived (alarm_phase S s).state in
      let there : State = (reschedule S (arrival_phase arrived (alarm_phase S s).state)).state in
      grows_both k s.jobs acted.jobs (start_phase S there).jobs (alarm_phase_grows proper s good)
      (grows_both k acted.jobs there.jobs (start_phase S there).jobs
      (grows_same k acted.jobs there.jobs (reschedule_same flagged))
      (grows_same k there.jobs (start_phase S there).jobs (start_same there)))
