-- In each state of a run the running job is in the list, and a task's state says whether one of
-- its jobs waits.
use Rattle.std.proofs.Common.{◌≡◌, ℕ, ◌<◌, ◌≤◌, ◌⊎◌, inl, inr, Bool, true, false, cond, nat_le, List, [], ◌∷◌, length, refl, sym, ◌∙◌, ap, arith}
use Rattle.std.specs.Prelude.{Option, Some, None, ◌==◌}
use Rattle.std.specs.Option.{option_map}
use Rattle.std.specs.List.{list_any}
use Rattle.std.proofs.lemmas.Bool.{and_parts, leb-true, ne_eqb}
use Rattle.osek_base.specs.declared.arrivals.Arrival.{Arrival}
use Rattle.osek_base.specs.declared.limits.TheConstants.{MAX_ACTIVATION, MAX_TASKS}
use Rattle.osek_base.specs.declared.status.TaskState.{TaskState}
use Rattle.osek_base.specs.Choice.{choice}
use Rattle.osek_base.specs.Proper.{IsProper}
use Rattle.osek_base.specs.Reschedule.{id_of, jobs_entered, reschedule, switched, with_dispatch_of}
use Rattle.osek_base.specs.Service.{invalid_task, is_suspended, running_task, task_state, unasked_service}
use Rattle.osek_base.specs.State.{Job, JobId, State, jobs_of, may_dispatch, same_id, waits}
use Rattle.osek_base.specs.System.{System, activation_of}
use Rattle.osek_base.specs.Tick.{alarm_acts, alarm_phase, alarms_act, arrival_phase, before_execution, execute_phase, last_phase, start_phase, tick}
use Rattle.osek_base.specs.Alarm.{alarms_advanced, due_alarms}
use Rattle.osek_base.specs.Trace.{all_activated, boot, run, starting_tasks}
use Rattle.law_runs.proofs.Foremost.{equal, same_self}
use Rattle.law_runs.proofs.Known.{proper_at}
use Rattle.law_runs.proofs.Lists.{clash, none_some, some_inside}
use Rattle.law_runs.proofs.Ranked.{HasReady}
use Rattle.law_runs.proofs.RankedTick.{IsExecuting, IsRunState, before_executing, boot_ordered, over_before, tick_ordered}
use Rattle.law_runs.proofs.Single.{IsSingle}
use Rattle.law_runs.proofs.SingleMoves.{is_best}
use Rattle.law_runs.proofs.SingleTick.{activated_running, begun, every_run}
use Rattle.law_kept.proofs.Parts.{any_moved, found_any}
use Rattle.law_blockers.proofs.PreemptLemmas.{entering, entering_id}
use Rattle.law_blockers.proofs.RunnerKept.{execute_running}
use Rattle.seen_ticks.specs.Observed.{is_waiting}
use Rattle.law_jobs.proofs.Calling.{AllStay}
use Rattle.law_jobs.proofs.Executing.{execute_executed}
use Rattle.law_jobs.proofs.Growing.{alarm_phase_grows}
use Rattle.law_jobs.proofs.Lists.{is_there, one_waits}
use Rattle.law_jobs.proofs.Moving.{runner_calm}

abbrev pub RunnerThere : State → Type 0
RunnerThere s = (n : JobId) → s.running ≡ Some n → is_there n s.jobs ≡ true

-- ---- a reschedule

module _ (S : System) (s : State) where
  chosen_there : (o : Option Job) → choice S s.jobs ≡ o → (n : JobId) → option_map id_of o ≡ Some n
      → is_there n (jobs_entered S o s.jobs) ≡ true
  chosen_there None falls n is = absurd (none_some n is)
  chosen_there (Some c) falls n is =
      let same : c.id ≡ n = some_inside c.id n is in
      any_moved (λ j. same_id j.id n) (entering S (Some c))
      (λ j. ap (λ m. same_id m n) (entering_id S (Some c) j)) s.jobs
      ∙ found_any (is_best S s.jobs) (λ j. same_id j.id n) s.jobs c falls
      (ap (λ m. same_id m n) same ∙ same_self n)

  reschedule_there : RunnerThere s ⊎ (may_dispatch s ≡ true) → RunnerThere (reschedule S s).state
  unfolding reschedule
  reschedule_there before = go (may_dispatch s) refl before
    where
      go : (b : Bool) → may_dispatch s ≡ b → RunnerThere s ⊎ (may_dispatch s ≡ true)
          → RunnerThere
          (with_dispatch_of s
          (cond b (switched S (choice S s.jobs) s) (record { events = []; state = s }))).state
      go true may before = chosen_there (choice S s.jobs) refl
      go false may (inl there) = there
      go false may (inr due) = clash (sym due ∙ may)

module _ (S : System) where
  -- ---- who runs stays so until a reschedule

  alarms_running : (due : List ℕ) (s : State) → (alarms_act S due s).state.running ≡ s.running
  unfolding unasked_service
  alarms_running [] s = refl
  alarms_running (a ∷ due) s = alarms_running due (alarm_acts S a s).state

  alarm_phase_running : (s : State) → (alarm_phase S s).state.running ≡ s.running
  unfolding alarm_phase
  alarm_phase_running s = alarms_running (due_alarms S s)
      (record s { alarms = alarms_advanced S s })

  start_there : (s : State) → RunnerThere s → RunnerThere (start_phase S s)
  unfolding start_phase
  start_there s there = there

  alarm_phase_there : (proper : IsProper S) (s : State) → IsRunState S s → RunnerThere s
      → RunnerThere (alarm_phase S s).state
  alarm_phase_there proper s good there n runs =
      stays n (there n (sym (alarm_phase_running s) ∙ runs))
    where
      stays : AllStay s.jobs (alarm_phase S s).state.jobs
      stays = (alarm_phase_grows S 0 proper s good).stays

  pub before_there : (proper : IsProper S) (arrived : List ℕ) (s : State) → IsRunState S s
      → RunnerThere s → RunnerThere (before_execution S arrived s).state
  before_there proper arrived s good there =
      start_there (reschedule S (arrival_phase arrived (alarm_phase S s).state)).state
      (reschedule_there S (arrival_phase arrived (alarm_phase S s).state)
      (inl (alarm_phase_there proper s good there)))

  -- ---- a tick

  last_there : (s x : State) → s.over ≡ false → RunnerThere s → x.running ≡ s.running
      → AllStay s.jobs x.jobs ⊎ ((may_dispatch x ≡ true) × (x.over ≡ s.over))
      → RunnerThere (last_phase S x).state
  last_there s x going there runs stays = go x.over refl
    where
      still : AllStay s.jobs x.jobs → RunnerThere x
      still stay n is = stay n (there n (sym runs ∙ is))

      at_end : x.over ≡ true → AllStay s.jobs x.jobs ⊎
          ((may_dispatch x ≡ true) × (x.over ≡ s.over))
          → RunnerThere x
      at_end over (inl stay) = still stay
      at_end over (inr due) = clash (sym over ∙ due.1 ∙ going)

      either : AllStay s.jobs x.jobs ⊎ ((may_dispatch x ≡ true) × (x.over ≡ s.over))
          → RunnerThere x ⊎ (may_dispatch x ≡ true)
      either (inl stay) = inl (still stay)
      either (inr due) = inr due.0

      go : (b : Bool) → x.over ≡ b
          → RunnerThere (cond b (record { events = []; state = x }) (reschedule S x)).state
      go true over = at_end over stays
      go false over = reschedule_there S x (either stays)

  tick_there : (proper : IsProper S) (arrived : List ℕ) (s : State) → s.over ≡ false
      → IsRunState S s
      → RunnerThere s → RunnerThere (tick S arrived s).after
  unfolding tick
  tick_there proper arrived s going good there =
      let e : State = (before_execution S arrived s).state in
      let executing : IsExecuting S proper (before_execution S arrived s).state =
      before_executing S proper arrived s good in
      last_there (before_execution S arrived s).state (execute_phase S e).state
      (over_before S arrived s ∙ going) (before_there proper arrived s good there)
      (execute_running S e)
      (execute_executed S e executing.good.single executing.good.ordered.ready [] tt).stays

-- ---- boot and runs

module _ (S : System) (proper : IsProper S) (mode : ℕ) where
  all_running : (ts : List ℕ) (s : State) → (all_activated S ts s).running ≡ s.running
  all_running [] s = refl
  all_running (t ∷ ts) s = all_running ts _ ∙ activated_running S proper t s

  boot_there : RunnerThere (boot S mode).state
  unfolding boot
  boot_there =
      reschedule_there S (all_activated S (starting_tasks S mode) (begun S proper mode))
      (inl (λ n runs. absurd (none_some n
      (sym (all_running (starting_tasks S mode) (begun S proper mode)) ∙ runs))))

  pub run_there : (arrivals : List Arrival) (n : ℕ) → RunnerThere (run S mode arrivals n).state
  run_there arrivals n =
      (every_run S mode (λ s. IsRunState S s × RunnerThere s)
      (boot_ordered S proper mode, boot_there)
      (λ arrived s going both. (
        tick_ordered S proper arrived s going both.0,
        tick_there S proper arrived s going both.0
            both.1,
      ))
      arrivals n).1

-- ---- the state of a task

-- how many tasks there may be, and how many jobs of each
pub few_tasks : (S : System) → IsProper S → length S.tasks ≤ MAX_TASKS
few_tasks S proper =
    let limit : nat_le (length S.tasks) MAX_TASKS ≡ true =
    (and_parts _ _ (and_parts _ _ (and_parts _ _
    (and_parts _ _ (and_parts _ _ (and_parts _ _
    (and_parts _ _ proper.limits).0).0).0).0).0).0).0 in
    leb-true (length S.tasks) MAX_TASKS limit

pub few_jobs : (S : System) → IsProper S → (t : ℕ) → t < length S.tasks
    → activation_of S t ≤ MAX_ACTIVATION
few_jobs S proper t inside =
    let here = and_parts _ _ (and_parts _ _ (and_parts _ _
    (and_parts _ _ (proper_at S t proper inside)).0).0).0 in
    leb-true (activation_of S t) MAX_ACTIVATION (and_parts _ _ (and_parts _ _ here.0).0).1

module _ (S : System) (s : State) (proper : IsProper S) (single : IsSingle S s)
    (ready : HasReady s.running s.jobs) (there : RunnerThere s) (k : ℕ)
    (known : k < length S.tasks) where
  running_calm : (o : Option JobId) → s.running ≡ o → (running_task o == k) ≡ true
      → one_waits k s.jobs ≡ false
  running_calm None runs is =
      let few : length S.tasks ≤ MAX_TASKS = few_tasks S proper in
      clash (sym is ∙ ne_eqb invalid_task k (λ e. omega (arith, e, known, few)))
  running_calm (Some n) runs is =
      ap (λ t. one_waits t s.jobs) (sym (equal n.task k is))
      ∙ runner_calm S s single ready n runs (there n runs)

  pub state_told : is_waiting (task_state s k) ≡ one_waits k s.jobs
  state_told = go (running_task s.running == k) refl
    where
      unwaiting : (b : Bool) → is_waiting (cond b TaskState.Suspended TaskState.Ready) ≡ false
      unwaiting true = refl
      unwaiting false = refl

      at : (w : Bool)
          → is_waiting (cond w TaskState.Waiting
          (cond (is_suspended s k) TaskState.Suspended TaskState.Ready))
          ≡ w
      at true = refl
      at false = unwaiting (is_suspended s k)

      go : (b : Bool) → (running_task s.running == k) ≡ b
          → is_waiting
          (cond b TaskState.Running
          (cond (list_any waits (jobs_of k s.jobs)) TaskState.Waiting
          (cond (is_suspended s k) TaskState.Suspended TaskState.Ready)))
          ≡ one_waits k s.jobs
      go true is = sym (running_calm s.running refl is)
      go false is = at (list_any waits (jobs_of k s.jobs))
