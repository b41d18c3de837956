-- What holds of each job, by who runs and by the switch that the job finds, holds behind each
-- phase but the instruction too.
use Rattle.std.proofs.Common.{ℕ, ◌≡◌, ◌<◌, Bool, true, false, cond, List, [], ◌∷◌, length, refl, sym, ◌∙◌, subst}
use Rattle.std.specs.Prelude.{Option, Some, None}
use Rattle.std.specs.List.{AllByRecursion}
use Rattle.std.specs.Option.{option_map}
use Rattle.osek_base.specs.declared.task.Action.{Action}
use Rattle.osek_base.specs.Activation.{activated, new_job, woken}
use Rattle.osek_base.specs.Alarm.{alarms_advanced, due_alarms, is_due}
use Rattle.osek_base.specs.Choice.{choice}
use Rattle.osek_base.specs.Lists.{below}
use Rattle.osek_base.specs.Proper.{IsProper}
use Rattle.osek_base.specs.Reschedule.{entered, id_of, jobs_entered, reschedule, switched, with_dispatch_of}
use Rattle.osek_base.specs.Service.{NobodyCalls, first_refusal, refusals, unasked_service}
use Rattle.osek_base.specs.State.{Job, JobId, State, may_dispatch, same_id, waits}
use Rattle.osek_base.specs.System.{System, alarm}
use Rattle.osek_base.specs.Tick.{action_call, alarm_acts, alarm_phase, alarms_act, routine_choice, routine_started, start_phase, with_start_of}
use Rattle.law_runs.proofs.Known.{all_below}
use Rattle.law_runs.proofs.Lists.{all_both, all_kept, all_map, all_weaker}
use Rattle.law_runs.proofs.Ranked.{AreRanked, IsUnder}
use Rattle.law_runs.proofs.RankedMoves.{IsNewest, chosen}
use Rattle.law_runs.proofs.RankedTick.{IsRunState, action_run}
use Rattle.law_runs.proofs.Single.{AreSingle, IsSingle}
use Rattle.law_runs.proofs.SingleTick.{alarm_known}
use Rattle.law_costs.specs.Left.{Switch, on, switch_for}
use Rattle.law_costs.proofs.ServicesKeep.{HoldsOfReady, activates, reply_keeps}
use Rattle.law_costs.proofs.Starts.{stopped}
use Rattle.law_costs.proofs.Switches.{all_on, dispatching, idle_on}

-- what holds of a job where that one runs, and the job finds that switch
module _ (S : System) (P : Option JobId → Switch → Job → Type 0) where
  -- of each job in a state
  abbrev pub Each : State → Type 0
  Each s = AllByRecursion (λ k. P s.running (switch_for s k) k) s.jobs

  -- it holds of jobs as they become ready, and behind a dispatch: where none runs then, of the one
  -- that runs, and of another
  pub record Lasts : Type 0 where
    pub made : (o : Option JobId) (n : JobId) → IsNewest S o (new_job n) → P o on (new_job n)
    pub freed : (o : Option JobId) (j : Job) → waits j ≡ true → IsNewest S o (woken j)
        → P o on j → P o on (woken j)
    pub none : (o : Option JobId) (k : Job) → P o on k → P None on k
    pub itself : (o : Option JobId) (k : Job) → waits k ≡ false → P o on k
        → P (Some k.id) on (entered S k)
    pub other : (o : Option JobId) (k l : Job) → IsUnder S k l → same_id l.id k.id ≡ false
        → P o on l → P (Some k.id) on l

  module _ (lasts : Lasts) where
    -- ---- jobs that become ready

    finds_on : (s : State) (k : Job) → IsNewest S s.running k → switch_for s k ≡ on
    finds_on s k new = idle_on s k (stopped s.running k.id new.stopped)

    pub holds_of_ready : (s : State)
        → HoldsOfReady S s.running (λ k. P s.running (switch_for s k) k)
    holds_of_ready s = record {
      made = λ n new.
          subst (λ w. P s.running w (new_job n)) (sym (finds_on s (new_job n) new))
          (lasts.made s.running n new);
      freed = λ j waiting new h.
          subst (λ w. P s.running w (woken j)) (sym (finds_on s (woken j) new))
          (lasts.freed s.running j waiting new
          (subst (λ w. P s.running w j) (finds_on s (woken j) new) h));
    }

    pub activated_keeps : (t : ℕ) (s : State) → IsRunState S s → Each s → Each (activated S t s)
    unfolding activated
    activated_keeps t s good all =
        activates S s good (λ k. P s.running (switch_for s k) k) (holds_of_ready s) all t s.jobs all

    -- ---- alarms

    pub action_keeps : (act : Action) (s : State) → IsRunState S s → Each s
        → Each (unasked_service S NobodyCalls s (action_call act)).state
    unfolding unasked_service
    action_keeps act s good all =
        reply_keeps S s good (λ k. P s.running (switch_for s k) k) (holds_of_ready s) all
        NobodyCalls (record { change = λ f ids. all; end = all }) (action_call act)
        (first_refusal (refusals S NobodyCalls s (action_call act)))

    module _ (proper : IsProper S) where
      alarms_keep : (due : List ℕ) → AllByRecursion (λ a. a < length S.alarms) due → (s : State)
          → IsRunState S s → Each s → Each (alarms_act S due s).state
      alarms_keep [] known s good all = all
      alarms_keep (a ∷ due) known s good all =
          alarms_keep due known.1 (alarm_acts S a s).state
          (action_run S proper s (alarm S a).action (alarm_known S a proper known.0) good)
          (action_keeps (alarm S a).action s good all)

      pub alarm_phase_keeps : (s : State) → IsRunState S s → Each s
          → Each (alarm_phase S s).state
      unfolding alarm_phase
      alarm_phase_keeps s good all =
          alarms_keep (due_alarms S s)
          (all_kept (λ a. a < length S.alarms) (is_due S s) (below (length S.alarms))
          (all_below (length S.alarms)))
          (record s { alarms = alarms_advanced S s })
          (record { single = good.single; ordered = good.ordered }) all

    -- ---- a dispatch

    one_keeps : (o : Option JobId) (k l : Job) (b : Bool) → same_id l.id k.id ≡ b
        → waits k ≡ false → (same_id l.id k.id ≡ true → l ≡ k) → IsUnder S k l → P o on l
        → P (Some k.id) on (cond b (entered S l) l)
    one_keeps o k l true is ready same under h =
        subst (λ z. P (Some k.id) on (entered S z)) (sym (same is))
        (lasts.itself o k ready (subst (P o on) (same is) h))
    one_keeps o k l false is ready same under h = lasts.other o k l under is h

    entered_keeps : (made : List ℕ) (running : Option JobId) (jobs : List Job)
        → AreSingle S made running jobs → AreRanked S running jobs
        → AllByRecursion (P running on) jobs → (o : Option Job) → choice S jobs ≡ o
        → AllByRecursion (P (option_map id_of o) on) (jobs_entered S o jobs)
    entered_keeps made running jobs single ranked all None is =
        all_weaker (P running on) (P None on) jobs (lasts.none running) all
    entered_keeps made running jobs single ranked all (Some k) is =
        let facts = chosen S made running jobs k is single ranked in
        all_map (λ l. (same_id l.id k.id ≡ true → l ≡ k) × (IsUnder S k l × P running on l))
        (P (Some k.id) on) (λ l. cond (same_id l.id k.id) (entered S l) l) jobs
        (λ l h.
        one_keeps running k l (same_id l.id k.id) refl facts.dispatched.ready h.0 h.1.0 h.1.1)
        (all_both (λ l. same_id l.id k.id ≡ true → l ≡ k) (λ l. IsUnder S k l × P running on l)
        jobs facts.itself
        (all_both (IsUnder S k) (P running on) jobs facts.dispatched.under all))

    pub reschedule_keeps : (s : State) → IsSingle S s → AreRanked S s.running s.jobs → Each s
        → Each (reschedule S s).state
    unfolding reschedule
    reschedule_keeps s single ranked all = go (may_dispatch s) refl
      where
        go : (b : Bool) → may_dispatch s ≡ b
            → Each
            (with_dispatch_of s
            (cond b (switched S (choice S s.jobs) s) (record { events = []; state = s }))).state
        go false may = all
        go true may =
            let there : State = (with_dispatch_of s (switched S (choice S s.jobs) s)).state in
            let is = (dispatching s may).1 in
            subst (λ find. AllByRecursion (λ k. P there.running (find k) k) there.jobs)
            (sym (all_on there is))
            (entered_keeps s.made s.running s.jobs single ranked
            (subst (λ find. AllByRecursion (λ k. P s.running (find k) k) s.jobs) (all_on s is) all)
            (choice S s.jobs) refl)

  -- ---- the start of a routine

  pub start_keeps : (s : State) → Each s → Each (start_phase S s)
  unfolding start_phase
  start_keeps s all = go (may_dispatch s) refl
    where
      go : (b : Bool) → may_dispatch s ≡ b
          → Each (with_start_of s (cond b (routine_started (routine_choice S s) s) s))
      go false may = all
      go true may =
          let there : State = with_start_of s (routine_started (routine_choice S s) s) in
          let is = (dispatching s may).1 in
          subst (λ find. AllByRecursion (λ k. P s.running (find k) k) s.jobs)
          (all_on s is ∙ sym (all_on there is)) all
