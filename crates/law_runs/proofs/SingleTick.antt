-- Boot, each tick and so each run leave of each task only the oldest job begun.
use Rattle.std.proofs.Common.{◌≡◌, ℕ, zero, suc, ◌<◌, ◌≤◌, ◌⊎◌, inl, inr, Bool, true, false, cond, not, List, [], ◌∷◌, drop, length, refl, sym, ◌∙◌, subst, arith}
use Rattle.std.specs.Prelude.{Some, None, ◌==◌, nat_lt}
use Rattle.std.specs.List.{list_all, AllByRecursion}
use Rattle.std.proofs.lemmas.Bool.{cases_lt, and_parts}
use Rattle.std.proofs.lemmas.List.{length-replicate, get_or_past}
use Rattle.osek_base.specs.declared.ids.Owner.{Owner}
use Rattle.osek_base.specs.declared.task.Action.{Action}
use Rattle.osek_base.specs.declared.instr.Service.{Service}
use Rattle.osek_base.specs.Types.{ServiceCall}
use Rattle.osek_base.specs.declared.instr.Control.{Control}
use Rattle.osek_base.specs.declared.instr.Plain.{Plain}
use Rattle.osek_base.specs.declared.instr.Instr.{Instr}
use Rattle.osek_base.specs.Lists.{below}
use Rattle.osek_base.specs.System.{System, Task, Routine, no_task, no_routine, alarm, program, starts_in, instruction_in, instruction_at}
use Rattle.osek_base.specs.Instruction.{Context, plain, next}
use Rattle.osek_base.specs.State.{Job, State, still, same_id, jobs_of}
use Rattle.osek_base.specs.Alarm.{is_due, due_alarms, alarms_advanced}
use Rattle.osek_base.specs.Activation.{activated, new_job}
use Rattle.osek_base.specs.Reschedule.{reschedule}
use Rattle.osek_base.specs.Service.{Caller, JobCalls, RoutineCalls, NobodyCalls, service, controlled}
use Rattle.osek_base.specs.Tick.{at_values, action_call, alarm_acts, alarms_act, alarm_phase, arrival_phase, start_phase, job_moved, with_context, answered, executed, caller_executes, executor, execute_phase, before_execution, last_phase, tick}
use Rattle.osek_base.specs.declared.arrivals.Arrival.{Arrival}
use Rattle.osek_base.specs.Trace.{Run, boot, all_activated, starting_tasks, starting_alarms, arriving, step_added, run}
use Rattle.osek_base.specs.Separable.{IsOwner}
use Rattle.osek_base.specs.Proper.{IsProper, is_proper_service, is_proper_instruction, is_proper_action}
use Rattle.osek_base.proofs.PlaceLemmas.{is_routine, known_place}
use Rattle.law_runs.proofs.Lists.{Pairs, clash, all_weaker, all_both, all_any, all_kept, all_filter, all_append, pairs_kept, pairs_append}
use Rattle.osek_base.specs.Laws.{StartsSingly}
use Rattle.law_runs.proofs.Foremost.{equal}
use Rattle.law_runs.proofs.Known.{IsCaller, ActivatesKnown, executor_calls, proper_alarm_at, all_below}
use Rattle.law_runs.proofs.Single.{IsSoundPair, AreSingle, IsSingle, IsFitChange, change_single, activated_single}
use Rattle.law_runs.proofs.SingleMoves.{reschedule_single}
use Rattle.law_runs.proofs.SingleService.{runner_begun, service_single, unasked_single}

pub true_lt : (a b : ℕ) → nat_lt a b ≡ true → a < b
true_lt a b h = grind (arith, h)

-- ---- what is called is known

service_known : (S : System) (call : ServiceCall) → is_proper_service S call ≡ true → ActivatesKnown S call
service_known S (Service.ActivateTask (Some t)) h = true_lt t (length S.tasks) h
service_known S (Service.ChainTask (Some t)) h = true_lt t (length S.tasks) h
service_known S (Service.ActivateTask None) h = tt
service_known S (Service.ChainTask None) h = tt
service_known S Service.TerminateTask h = tt
service_known S _ h = tt

pub at_known : (S : System) (x : Context) (call : ServiceCall) → ActivatesKnown S call → ActivatesKnown S (at_values x call)
at_known S x (Service.SetRelAlarm a y z) h = tt
at_known S x (Service.SetAbsAlarm a y z) h = tt
at_known S x call h = h

abbrev pub IsKnownInstr : System → Instr → Type 0
IsKnownInstr S (Instr.Service call) = ActivatesKnown S call
IsKnownInstr S _ = Unit {0}

instr_known : (S : System) (in_routine : Bool) (size : ℕ) (what : Instr) → is_proper_instruction S in_routine size what ≡ true → IsKnownInstr S what
instr_known S in_routine size (Instr.Service call) h = service_known S call h
instr_known S in_routine size (Instr.Plain x) h = tt
instr_known S in_routine size (Instr.Control x) h = tt

-- at a place of no program stands NOP
in_program : (S : System) (owner : Owner) (place : ℕ) → IsProper S → IsOwner S owner → IsKnownInstr S (instruction_at S owner place)
in_program S owner place proper known = go (cases_lt place (length (program S owner)))
  where
    go : (place < length (program S owner)) ⊎ (length (program S owner) ≤ place) → IsKnownInstr S (instruction_at S owner place)
    go (inl inside) = instr_known S (is_routine owner) _ (instruction_at S owner place) (known_place S owner place proper known inside).operands
    go (inr past) = subst (IsKnownInstr S) (sym (get_or_past (program S owner) place (Instr.Plain Plain.Nop) past)) tt

pub any_instr_known : (S : System) (owner : Owner) (place : ℕ) → IsProper S → IsKnownInstr S (instruction_at S owner place)
any_instr_known S (Owner.Task t) place proper = go (cases_lt t (length S.tasks))
  where
    go : (t < length S.tasks) ⊎ (length S.tasks ≤ t) → IsKnownInstr S (instruction_at S (Owner.Task t) place)
    go (inl inside) = in_program S (Owner.Task t) place proper inside
    go (inr past) = subst (λ (a : Task). IsKnownInstr S (instruction_in a.program place)) (sym (get_or_past S.tasks t no_task past)) tt
any_instr_known S (Owner.Routine t) place proper = go (cases_lt t (length S.routines))
  where
    go : (t < length S.routines) ⊎ (length S.routines ≤ t) → IsKnownInstr S (instruction_at S (Owner.Routine t) place)
    go (inl inside) = in_program S (Owner.Routine t) place proper inside
    go (inr past) = subst (λ (a : Routine). IsKnownInstr S (instruction_in a.program place)) (sym (get_or_past S.routines t no_routine past)) tt

action_known : (S : System) (act : Action) → is_proper_action S act ≡ true → ActivatesKnown S (action_call act)
action_known S (Action.ActivateTask t) h = true_lt t (length S.tasks) h
action_known S (Action.SetEvent t m) h = tt

-- the action of an alarm is known
pub alarm_known : (S : System) (a : ℕ) → IsProper S → a < length S.alarms → ActivatesKnown S (action_call (alarm S a).action)
alarm_known S a proper inside = action_known S (alarm S a).action (and_parts _ _ (and_parts _ _ (proper_alarm_at S a proper inside)).0).1

-- ---- a tick

-- the calling job runs
abbrev pub CallerRuns : State → Caller → Type 0
CallerRuns s (JobCalls j) = s.running ≡ Some j.id
CallerRuns s _ = Unit {0}

module _ (S : System) (proper : IsProper S) where
  alarms_single : (due : List ℕ) → AllByRecursion (λ a. a < length S.alarms) due → (s : State) → IsSingle S s → IsSingle S (alarms_act S due s).state
  alarms_single [] all s single = single
  alarms_single (a ∷ due) all s single =
      alarms_single due all.1 (alarm_acts S a s).state
      (unasked_single S s single NobodyCalls (action_call (alarm S a).action) proper tt (alarm_known S a proper all.0))

  pub alarm_phase_single : (s : State) → IsSingle S s → IsSingle S (alarm_phase S s).state
  unfolding alarm_phase
  alarm_phase_single s single =
      alarms_single (due_alarms S s) (all_kept (λ a. a < length S.alarms) (is_due S s) (below (length S.alarms)) (all_below (length S.alarms)))
      (record s { alarms = alarms_advanced S s }) single

  pub start_single : (s : State) → IsSingle S s → IsSingle S (start_phase S s)
  unfolding start_phase
  start_single s single = single

  with_context_single : (c : Caller) (x : Context) (s : State) → CallerRuns s c → IsSingle S s → IsSingle S (with_context c x s)
  with_context_single (JobCalls j) x s runs single =
      change_single S j.id (job_moved x) s.made s.running s.jobs
      (all_weaker (λ k. same_id k.id j.id ≡ true → k.begun ≡ true) (IsFitChange S s.made j.id (job_moved x)) s.jobs (λ k begun. record {
        id = refl;
        begun = refl;
        sound = λ e h. record { given = h.given; idle = h.idle; fresh = λ b. clash (sym (begun e) ∙ b); extended = h.extended };
      }) (runner_begun S s single j.id runs)) single
  with_context_single (RoutineCalls a) x s runs single = single
  with_context_single NobodyCalls x s runs single = single

  caller_runs : (c : Caller) (s : State) → IsCaller s c → CallerRuns s c
  caller_runs (JobCalls j) s calls = calls.runs
  caller_runs (RoutineCalls a) s calls = tt
  caller_runs NobodyCalls s calls = tt

  pub service_runs : (c : Caller) (s : State) (call : ServiceCall) → IsCaller s c → CallerRuns (service S c s call).state c
  unfolding service
  service_runs (JobCalls j) s call calls = calls.runs
  service_runs (RoutineCalls a) s call calls = tt
  service_runs NobodyCalls s call calls = tt

  pub controlled_runs : (control : Control ℕ) (c : Caller) (s : State) → IsCaller s c → CallerRuns (controlled control s) c
  controlled_runs Control.DisableAllInterrupts c s calls = caller_runs c s calls
  controlled_runs _ c s calls = caller_runs c s calls

  pub controlled_single : (control : Control ℕ) (s : State) → IsSingle S s → IsSingle S (controlled control s)
  controlled_single Control.DisableAllInterrupts s single = single
  controlled_single _ s single = single

  executed_single : (who : Owner) (c : Caller) (x : Context) (what : Instr) (s : State) → IsCaller s c → IsKnownInstr S what → IsSingle S s
      → IsSingle S (executed S who c x what s).state
  executed_single who c x (Instr.Plain p) s calls known single = with_context_single c (plain p x (s.words who)).context s (caller_runs c s calls) single
  executed_single who c x (Instr.Service call) s calls known single =
      with_context_single c (answered (service S c s (at_values x call)).status (service S c s (at_values x call)).results x) (service S c s (at_values x call)).state (service_runs c s (at_values x call) calls) (service_single S s single c (at_values x call) proper calls (at_known S x call known))
  executed_single who c x (Instr.Control control) s calls known single = with_context_single c (next x) (controlled control s) (controlled_runs control c s calls) (controlled_single control s single)

  caller_single : (c : Caller) (s : State) → IsCaller s c → IsSingle S s → IsSingle S (caller_executes S c s).state
  caller_single (JobCalls j) s calls single = executed_single (Owner.Task j.id.task) (JobCalls j) j.context _ s calls (any_instr_known S (Owner.Task j.id.task) j.context.place proper) single
  caller_single (RoutineCalls a) s calls single = executed_single (Owner.Routine a.routine) (RoutineCalls a) a.context _ s calls (any_instr_known S (Owner.Routine a.routine) a.context.place proper) single
  caller_single NobodyCalls s calls single = single

  pub execute_single : (s : State) → IsSingle S s → IsSingle S (execute_phase S s).state
  unfolding execute_phase
  execute_single s single = caller_single (executor s) s (executor_calls s) single

  last_single : (s : State) → IsSingle S s → IsSingle S (last_phase S s).state
  last_single s single = go s.over
    where
      go : (b : Bool) → IsSingle S (cond b (record { events = []; state = s }) (reschedule S s)).state
      go true = single
      go false = reschedule_single S s single

  pub tick_single : (arrived : List ℕ) (s : State) → IsSingle S s → IsSingle S (tick S arrived s).after
  unfolding tick
  tick_single arrived s single =
      let waked : IsSingle S (arrival_phase arrived (alarm_phase S s).state) = alarm_phase_single s single in
      let ready : IsSingle S (before_execution S arrived s).state =
      start_single (reschedule S (arrival_phase arrived (alarm_phase S s).state)).state (reschedule_single S (arrival_phase arrived (alarm_phase S s).state) waked) in
      last_single (execute_phase S (before_execution S arrived s).state).state (execute_single (before_execution S arrived s).state ready)

  -- ---- boot

  activated_task : (t : ℕ) (s : State) (P : Job → Type 0) → AllByRecursion P s.jobs → ((n : ℕ) → P (new_job (record { task = t; serial = n })))
      → AllByRecursion P (activated S t s).jobs
  unfolding activated
  activated_task t s P all new = all_append P s.jobs (new_job _ ∷ []) all (new _, tt)

  pub activated_running : (t : ℕ) (s : State) → (activated S t s).running ≡ s.running
  unfolding activated
  activated_running t s = refl

  -- distinct tasks, none of which has a job
  all_activated_keep : (Q : State → Type 0)
      → ((t : ℕ) (s : State) → t < length S.tasks → AllByRecursion (λ j. j.id.task < t) s.jobs → Q s → Q (activated S t s))
      → (ts : List ℕ) → AllByRecursion (λ t. t < length S.tasks) ts → Pairs (λ t u. t < u) ts → (s : State)
      → AllByRecursion (λ t. AllByRecursion (λ j. j.id.task < t) s.jobs) ts → Q s → Q (all_activated S ts s)
  all_activated_keep Q step [] all rising s older good = good
  all_activated_keep Q step (t ∷ ts) all rising s older good =
      all_activated_keep Q step ts all.1 rising.1 (activated S t s)
      (all_weaker (λ u. (t < u) × AllByRecursion (λ j. j.id.task < u) s.jobs) (λ u. AllByRecursion (λ j. j.id.task < u) (activated S t s).jobs) ts
      (λ u h. activated_task t s (λ j. j.id.task < u) h.1 (λ n. h.0))
      (all_both (λ u. t < u) (λ u. AllByRecursion (λ j. j.id.task < u) s.jobs) ts rising.0 older.1))
      (step t s all.0 older.0 good)

  rising_below : (n : ℕ) → Pairs (λ t u. t < u) (below n)
  rising_below zero = tt
  rising_below (suc n) = pairs_append (λ t u. t < u) (below n) (n ∷ []) (rising_below n) (tt, tt) (all_weaker (λ t. t < n) (λ t. AllByRecursion (λ u. t < u) (n ∷ [])) (below n) (λ t h. (h, tt)) (all_below n))

  -- the state before the first activation
  abbrev pub begun : ℕ → State
  begun mode = record (still S) { alarms = starting_alarms S mode }

  -- what activations keep, the tasks that start keep
  pub started_keep : (Q : State → Type 0)
      → ((t : ℕ) (s : State) → t < length S.tasks → AllByRecursion (λ j. j.id.task < t) s.jobs → Q s → Q (activated S t s))
      → (mode : ℕ) → Q (begun mode) → Q (all_activated S (starting_tasks S mode) (begun mode))
  started_keep Q step mode good =
      all_activated_keep Q step (starting_tasks S mode)
      (all_kept (λ t. t < length S.tasks) (starts_in S mode) (below (length S.tasks)) (all_below (length S.tasks)))
      (pairs_kept (λ t u. t < u) (starts_in S mode) (below (length S.tasks)) (rising_below (length S.tasks)))
      (begun mode) (all_any (λ t. AllByRecursion (λ j. j.id.task < t) (begun mode).jobs) (starting_tasks S mode) (λ t. tt)) good

  pub first_single : (t : ℕ) (s : State) → t < length S.tasks → AllByRecursion (λ j. j.id.task < t) s.jobs → IsSingle S s → IsSingle S (activated S t s)
  first_single t s inside older single =
      subst (λ o. AreSingle S (activated S t s).made o (activated S t s).jobs) (sym (activated_running t s))
      (activated_single S t s inside (all_weaker (λ j. j.id.task < t) (λ j. j.id.task ≡ t → _) s.jobs (λ j h e. absurd (omega arith)) older) single)

  pub begun_single : (mode : ℕ) → IsSingle S (begun mode)
  begun_single mode = record { known = length-replicate (length S.tasks) 0; each = tt; pairs = tt; runs = tt }

  pub boot_single : (mode : ℕ) → IsSingle S (boot S mode).state
  unfolding boot
  boot_single mode =
      reschedule_single S (all_activated S (starting_tasks S mode) (begun mode)) (started_keep (IsSingle S) first_single mode (begun_single mode))

-- ---- a run

-- what boot has and each tick keeps, every run has
module _ (S : System) (mode : ℕ) (Inv : State → Type 0) (begun : Inv (boot S mode).state)
    (keeps : (arrived : List ℕ) (s : State) → s.over ≡ false → Inv s → Inv (tick S arrived s).after) where
  -- one_more at an over of one's own
  abbrev pub more_at : List Arrival → Run → Bool → Run
  more_at arrivals r over =
      elim over [ true ↦ r | false ↦ step_added r (tick S (arriving arrivals r.state.tick) r.state) ]

  more : (arrivals : List Arrival) (r : Run) (over : Bool) → r.state.over ≡ over → Inv r.state → Inv (more_at arrivals r over).state
  more arrivals r true e inv = inv
  more arrivals r false e inv = keeps (arriving arrivals r.state.tick) r.state e inv

  pub every_run : (arrivals : List Arrival) (n : ℕ) → Inv (run S mode arrivals n).state
  unfolding run
  every_run arrivals zero = begun
  every_run arrivals (suc n) = more arrivals (run S mode arrivals n) (run S mode arrivals n).state.over refl (every_run arrivals n)

pub run_single : (S : System) → IsProper S → (mode : ℕ) (arrivals : List Arrival) (n : ℕ) → IsSingle S (run S mode arrivals n).state
run_single S proper mode arrivals n =
    every_run S mode (IsSingle S) (boot_single S proper mode) (λ arrived s going single. tick_single S proper arrived s single) arrivals n

-- ---- single start

-- behind the first job of a task none is begun
rest_unbegun : (S : System) (t : ℕ) (jobs : List Job) → Pairs (IsSoundPair S) jobs → AllByRecursion (λ j. j.id.task ≡ t) jobs
    → list_all (λ (j : Job). not j.begun) (drop 1 jobs) ≡ true
rest_unbegun S t [] pairs tasks = refl
rest_unbegun S t (x ∷ xs) pairs tasks = each xs pairs.0 tasks.1
  where
    each : (ys : List Job) → AllByRecursion (IsSoundPair S x) ys → AllByRecursion (λ j. j.id.task ≡ t) ys → list_all (λ (j : Job). not j.begun) ys ≡ true
    each [] later same = refl
    each (y ∷ ys) later same = rw (later.0.unbegun (tasks.0 ∙ sym same.0)) (each ys later.1 same.1)

pub starts_singly : (S : System) (mode : ℕ) (arrivals : List Arrival) (n : ℕ) → IsProper S → StartsSingly S mode arrivals n
starts_singly S mode arrivals n proper t =
    let single : IsSingle S (run S mode arrivals n).state = run_single S proper mode arrivals n in
    let jobs : List Job = (run S mode arrivals n).state.jobs in
    rest_unbegun S t (jobs_of t jobs) (pairs_kept (IsSoundPair S) (λ j. j.id.task == t) jobs single.pairs)
    (all_weaker (λ j. Unit {0} × ((j.id.task == t) ≡ true)) (λ j. j.id.task ≡ t) (jobs_of t jobs) (λ j h. equal j.id.task t h.1)
    (all_filter (λ j. Unit {0}) (λ j. j.id.task == t) jobs (all_any (λ j. Unit {0}) jobs (λ j. tt))))
