-- Known jobs and a known routine are known behind each phase of a tick too.
use Rattle.std.proofs.Common.{ℕ, ◌≡◌, ◌<◌, Bool, true, false, cond, List, [], ◌∷◌, length, refl, sym, ◌∙◌, ap, subst}
use Rattle.std.specs.Prelude.{IfSome, Option, Some, None}
use Rattle.std.specs.List.{AllByRecursion}
use Rattle.osek_base.specs.Alarm.{alarms_advanced, due_alarms}
use Rattle.osek_base.specs.Lists.{below, is_foremost}
use Rattle.osek_base.specs.Proper.{IsProper}
use Rattle.osek_base.specs.Reschedule.{reschedule}
use Rattle.osek_base.specs.Service.{Caller, JobCalls, NobodyCalls, RoutineCalls, unasked_service}
use Rattle.osek_base.specs.State.{Active, Job, JobId, State, fresh_context, interrupts_off, may_dispatch, same_id}
use Rattle.osek_base.specs.System.{System, routine}
use Rattle.osek_base.specs.Tick.{alarm_acts, alarm_phase, alarms_act, arrival_phase, before_execution, caller_executes, execute_phase, executor, is_pending, last_phase, routine_choice, routine_started, silent, start_phase, tick, with_start_of}
use Rattle.law_runs.proofs.Foremost.{same_self}
use Rattle.law_runs.proofs.Formed.{HasForm, IsPlacedJob}
use Rattle.law_runs.proofs.FormedPhases.{before_form}
use Rattle.law_runs.proofs.Good.{good as good_state, shaped}
use Rattle.law_runs.proofs.Known.{IsCaller, IsRunningCaller, all_below, executor_calls}
use Rattle.law_runs.proofs.Lists.{all_both, all_weaker, found}
use Rattle.law_runs.proofs.Ranked.{AreRanked}
use Rattle.law_runs.proofs.RankedTick.{IsExecuting, IsRunState, alarm_phase_ordered, before_executing, execute_left}
use Rattle.law_runs.proofs.Single.{IsSingle}
use Rattle.law_runs.proofs.SingleTick.{execute_single}
use Rattle.law_costs.specs.Left.{Switch, is_off, switch_for, switch_of}
use Rattle.law_costs.specs.Known.{Executes, IsKnownJob, IsKnownRoutine, Known, StaysKnown, TakesInternal}
use Rattle.law_costs.specs.Jobs.{behind}
use Rattle.law_costs.specs.Settable.{AreSettable}
use Rattle.law_costs.proofs.Entered.{HasTaken, IsEntered, StaysTaken, before_entered, own_taken, taken_lasts}
use Rattle.law_costs.proofs.Excluding.{excludes_others}
use Rattle.law_costs.proofs.InstructionKeeps.{job_keeps, routine_keeps}
use Rattle.law_costs.proofs.InTicks.{executed_is}
use Rattle.law_costs.proofs.JobsKeep.{Each, Lasts, alarm_phase_keeps, reschedule_keeps, start_keeps}
use Rattle.law_costs.proofs.JobTakes.{behind_active, behind_running, own_switch}
use Rattle.law_costs.proofs.SettableTick.{before_settable}
use Rattle.law_costs.proofs.Switches.{dispatching}

module _ (S : System) (known : Known) where
  -- of a job whose task exists
  abbrev pub IsKnownThere : Option JobId → Switch → Job → Type 0
  IsKnownThere o w k = k.id.task < length S.tasks → IsKnownJob known w k

  abbrev KnownActive : State → Type 0
  KnownActive s = IfSome s.active (IsKnownRoutine known (switch_of s))

  pub record HasKnown (s : State) : Type 0 where
    pub jobs : Each S IsKnownThere s
    pub active : KnownActive s
    pub taken : Each S (StaysTaken S) s

  -- the task of each job of a run exists
  pub known_jobs : (s : State) → HasForm S s → Each S IsKnownThere s
      → AllByRecursion (λ k. IsKnownJob known (switch_for s k) k) s.jobs
  known_jobs s form all =
      all_weaker (λ k. IsPlacedJob S k × IsKnownThere s.running (switch_for s k) k)
      (λ k. IsKnownJob known (switch_for s k) k) s.jobs (λ k h. h.1 h.0.task)
      (all_both (IsPlacedJob S) (λ k. IsKnownThere s.running (switch_for s k) k) s.jobs
      form.formed.jobs all)

  module _ (proper : IsProper S) (stays : StaysKnown S known) where
    pub known_lasts : Lasts S IsKnownThere
    known_lasts = record {
      made = λ o n new inside. stays.fresh n inside;
      freed = λ o j waiting new h inside. stays.freed j waiting (h inside);
      none = λ o k h. h;
      itself = λ o k ready h inside. stays.dispatched k ready (h inside);
      other = λ o k l under differs h. h;
    }

    -- ---- the active routine in phases 1 to 4

    acts_active : (due : List ℕ) (s : State) → KnownActive s
        → KnownActive (alarms_act S due s).state
    unfolding unasked_service
    acts_active [] s h = h
    acts_active (a ∷ due) s h = acts_active due (alarm_acts S a s).state h

    alarms_active : (s : State) → KnownActive s → KnownActive (alarm_phase S s).state
    unfolding alarm_phase
    alarms_active s h = acts_active (due_alarms S s) (record s { alarms = alarms_advanced S s }) h

    reschedule_active : (s : State) → KnownActive s → KnownActive (reschedule S s).state
    unfolding reschedule
    reschedule_active s h = h

    started_active : (s : State) → may_dispatch s ≡ true → (o : Option ℕ)
        → routine_choice S s ≡ o → KnownActive s
        → KnownActive (with_start_of s (routine_started o s))
    started_active s may None is h = h
    started_active s may (Some i) is h =
        subst (λ w. IsKnownRoutine known w (record { routine = i; context = fresh_context }))
        (sym (dispatching s may).1)
        (stays.started i
        (found (λ k. k < length S.routines)
        (is_foremost (is_pending s) (λ k. (routine S k).priority) (below (length S.routines)))
        (below (length S.routines)) i (all_below (length S.routines)) is).0)

    start_active : (s : State) → KnownActive s → KnownActive (start_phase S s)
    unfolding start_phase
    start_active s h = go (may_dispatch s) refl
      where
        go : (b : Bool) → may_dispatch s ≡ b
            → KnownActive (with_start_of s (cond b (routine_started (routine_choice S s) s) s))
        go false may = h
        go true may = started_active s may (routine_choice S s) refl h

    -- ---- phases 1 to 4, and 6

    pub reschedule_known : (s : State) → IsSingle S s → AreRanked S s.running s.jobs → HasKnown s
        → HasKnown (reschedule S s).state
    reschedule_known s single ranked here = record {
      jobs = reschedule_keeps S IsKnownThere known_lasts s single ranked here.jobs;
      active = reschedule_active s here.active;
      taken = reschedule_keeps S (StaysTaken S) (taken_lasts S) s single ranked here.taken;
    }

    pub before_known : (arrived : List ℕ) (s : State) → IsRunState S s → HasKnown s
        → HasKnown (before_execution S arrived s).state
    before_known arrived s good here = record {
      jobs = start_keeps S IsKnownThere there dispatched.jobs;
      active = start_active there dispatched.active;
      taken = start_keeps S (StaysTaken S) there dispatched.taken;
    }
      where
        raised : State
        raised = arrival_phase arrived (alarm_phase S s).state

        there : State
        there = (reschedule S raised).state

        acted : IsRunState S (alarm_phase S s).state
        acted = alarm_phase_ordered S proper s good

        dispatched : HasKnown there
        dispatched =
            reschedule_known raised acted.single acted.ordered.ranked
            (record {
              jobs = alarm_phase_keeps S IsKnownThere known_lasts proper s good here.jobs;
              active = alarms_active s here.active;
              taken =
                  alarm_phase_keeps S (StaysTaken S) (taken_lasts S) proper s good here.taken;
            })

    last_known : (e : State) → IsSingle S e → AreRanked S e.running e.jobs → HasKnown e
        → HasKnown (last_phase S e).state
    last_known e single ranked here = go e.over
      where
        go : (b : Bool) → HasKnown (cond b (silent e) (reschedule S e)).state
        go true = here
        go false = reschedule_known e single ranked here

    -- ---- phase 5

    module _ (s : State) (executing : IsExecuting S proper s) (form : HasForm S s)
        (entered : IsEntered S s) (here : HasKnown s) where
      -- who executes is known
      pub job_known : (j : Job) → executor s ≡ JobCalls j → IsKnownJob known (switch_of s) j
      job_known j is =
          let calls : IsRunningCaller s j = subst (IsCaller s) is (executor_calls s) in
          subst (λ w. IsKnownJob known w j)
          (own_switch S s j.id (record { idle = calls.idle; runs = calls.runs }) j
          (same_self j.id))
          (found (λ k. IsKnownJob known (switch_for s k) k) (λ k. same_id k.id j.id) s.jobs j
          (known_jobs s form here.jobs) calls.found).0

      pub routine_known : (a : Active) → executor s ≡ RoutineCalls a
          → IsKnownRoutine known (switch_of s) a
      routine_known a is =
          subst (λ o. IfSome o (IsKnownRoutine known (switch_of s)))
          (subst (IsCaller s) is (executor_calls s)) here.active

      -- .. and has taken its internal resource
      job_taken : (j : Job) → IsRunningCaller s j → HasTaken S j
      job_taken j calls = go (interrupts_off s) refl
        where
          go : (b : Bool) → interrupts_off s ≡ b → HasTaken S j
          go false on = entered on j calls
          go true off =
              (found (λ k. StaysTaken S s.running (switch_for s k) k) (λ k. same_id k.id j.id)
              s.jobs j here.taken calls.found).0
              (ap is_off
              (own_switch S s j.id (record { idle = calls.idle; runs = calls.runs }) j
              (same_self j.id))
              ∙ off)

      who_taken : (who : Caller) → IsCaller s who → TakesInternal S who
      who_taken (JobCalls j) calls = job_taken j calls
      who_taken (RoutineCalls a) calls = tt
      who_taken NobodyCalls calls = tt

      module _ (within : AreSettable S s.masks)
          (goes_on : (execute_phase S s).state.over ≡ false) where
        pub executes : (who : Caller) → executor s ≡ who → Executes S who s
        executes who is = record {
          good = good_state S s executing.good form;
          shaped = shaped S s executing.good form;
          calls = is;
          excludes =
              excludes_others S proper s executing who
              (subst (IsCaller s) is (executor_calls s));
          entered = who_taken who (subst (IsCaller s) is (executor_calls s));
          within = within;
          goes_on = sym (ap (λ (e : State). e.over) (executed_is S s who is)) ∙ goes_on;
        }

        by_caller : (who : Caller) → executor s ≡ who → IsCaller s who
            → HasKnown (caller_executes S who s).state
        by_caller (JobCalls j) is calls = record {
          jobs =
              job_keeps S IsKnownThere known_lasts s executing.good here.jobs j calls
              (subst (IsSingle S) (executed_is S s (JobCalls j) is)
              (execute_single S proper s executing.good.single))
              (λ k own there inside.
              subst (λ o. IfSome o (IsKnownJob known (switch_of (behind S s j)))) there
              (stays.job s j (executes (JobCalls j) is) (job_known j is)));
          active =
              subst (λ o. IfSome o (IsKnownRoutine known (switch_of (behind S s j))))
              (sym (behind_active S s j calls.idle)) tt;
          taken =
              job_keeps S (StaysTaken S) (taken_lasts S) s executing.good here.taken j calls
              (subst (IsSingle S) (executed_is S s (JobCalls j) is)
              (execute_single S proper s executing.good.single))
              (λ k own there.
              subst (λ o. StaysTaken S o (switch_of (behind S s j)) k)
              (sym (behind_running S s j)) (own_taken S s j calls (job_taken j calls) k there));
        }
        by_caller (RoutineCalls a) is calls = record {
          jobs = routine_keeps S IsKnownThere known_lasts s executing.good here.jobs a calls;
          active = stays.routine s a (executes (RoutineCalls a) is) (routine_known a is);
          taken =
              routine_keeps S (StaysTaken S) (taken_lasts S) s executing.good here.taken a calls;
        }
        by_caller NobodyCalls is calls = here

        executed_known : HasKnown (execute_phase S s).state
        executed_known =
            subst HasKnown (sym (executed_is S s (executor s) refl))
            (by_caller (executor s) refl (executor_calls s))

        pub from_known : HasKnown (last_phase S (execute_phase S s).state).state
        from_known =
            last_known (execute_phase S s).state (execute_single S proper s executing.good.single)
            (execute_left S proper s executing).ranked executed_known

    -- ---- the tick

    pub tick_known : (arrived : List ℕ) (s : State) → IsRunState S s → HasForm S s → HasKnown s
        → AreSettable S s.masks
        → (execute_phase S (before_execution S arrived s).state).state.over ≡ false
        → HasKnown (tick S arrived s).after
    unfolding tick
    tick_known arrived s good form here within goes_on =
        let last =
        from_known (before_execution S arrived s).state (before_executing S proper arrived s good)
        (before_form S proper arrived s form) (before_entered S arrived s)
        (before_known arrived s good here) (before_settable S arrived s within) goes_on in
        record { jobs = last.jobs; active = last.active; taken = last.taken }
