-- What a service answers is the same in the upper core.
use Rattle.std.proofs.Common.{◌≡◌, ℕ, ◌<◌, Bool, true, false, cond, refl, sym, ◌∙◌, ap, ap₂, arith, ne_eqb, get_or-take}
use Rattle.std.specs.Prelude.{Option, Some, None, ◌==◌}
use Rattle.std.specs.List.{list_any}
use Rattle.osek_base.specs.declared.instr.Service.{Service}
use Rattle.osek_base.specs.Types.{ServiceCall}
use Rattle.osek_base.specs.declared.instr.Instr.{Instr}
use Rattle.osek_base.specs.declared.status.Status.{Status}
use Rattle.osek_base.specs.declared.status.TaskState.{TaskState}
use Rattle.osek_base.specs.declared.trace_event.Results.{Results}
use Rattle.osek_base.specs.declared.task.Counter.{Counter}
use Rattle.osek_base.specs.System.{System}
use Rattle.osek_base.specs.State.{JobId, State, waits, jobs_of}
use Rattle.osek_base.specs.Service.{Caller, JobCalls, RoutineCalls, NobodyCalls, is_suspended, running_task, invalid_task, state_number, task_state, remaining, results, results_told}
use Rattle.osek_base.specs.Upper.{is_upper_task, is_upper_alarm}
use Rattle.osek_base.specs.Separable.{asks_task_id}
use Rattle.osek_base.specs.Agree.{renumbered_service, upper_core}
use Rattle.partition_check.proofs.UpperState.{up, is_upper_id, upper_count}
use Rattle.osek_base.proofs.ForemostLemmas.{keep}
use Rattle.partition_check.proofs.Shared.{IsCounterpart, IsUpperCaller, IsUpperCall}
use Rattle.partition_check.proofs.ListsUp.{true≢false}
use Rattle.partition_check.proofs.PriorityUp.{first_tasks}
use Rattle.partition_check.proofs.JobsUp.{jobs_of_wait_up}
use Rattle.partition_check.proofs.RefusalsUp.{upper_task_named, upper_alarm_named, visible_named, suspended_up, count_up}
use Rattle.partition_check.proofs.AlarmsUp.{expiry_up}
use Rattle.partition_check.proofs.SharedUp.{word_up}

-- a routine isn't told which task runs (IsUpperCall), and nobody is either
abbrev pub IsTold : Caller → ServiceCall → Type 0
IsTold NobodyCalls call = asks_task_id (Instr.Service call) ≡ false
IsTold (JobCalls j) call = Unit {0}
IsTold (RoutineCalls a) call = Unit {0}

module _ (S : System) (p : ℕ) (both : IsCounterpart S p) where
  -- ---- the running task

  keep_upper : (o : Option JobId) (n : JobId) → o ≡ Some n → is_upper_id S p n ≡ true → keep (is_upper_id S p) o ≡ o
  keep_upper None n e high = refl
  keep_upper (Some m) n e high =
      let same : m ≡ n = grind arith in
      ap (λ b. cond b (Some m) None) (ap (is_upper_id S p) same ∙ high)

  pub running_task_up : (s : State) (c : Caller) → IsUpperCaller S p s c → IsUpperCall S p c Service.GetTaskId → IsTold c Service.GetTaskId
      → running_task (keep (is_upper_id S p) s.running) ≡ running_task s.running
  running_task_up s (JobCalls j) upper named told = ap running_task (keep_upper s.running j.id upper.2 upper.1)
  running_task_up s (RoutineCalls a) upper named told = absurd (true≢false (named.by_routine a refl))
  running_task_up s NobodyCalls upper named told = absurd (true≢false told)

  -- whether an upper task runs
  runs_up : (o : Option JobId) (t : ℕ) → t < upper_count S p → is_upper_task S p t ≡ true
      → (running_task (keep (is_upper_id S p) o) == t) ≡ (running_task o == t)
  runs_up None t first high = refl
  runs_up (Some n) t first high = go (is_upper_id S p n) refl
    where
      nobody : (invalid_task == t) ≡ false
      nobody = ne_eqb invalid_task t (λ e. omega (arith, e, first, both.few))

      go : (b : Bool) → is_upper_id S p n ≡ b → (running_task (cond b (Some n) None) == t) ≡ (n.task == t)
      go true h = refl
      go false h = nobody ∙ sym (ne_eqb n.task t (λ e. true≢false (sym high ∙ ap (is_upper_task S p) (sym e) ∙ h)))

  pub task_state_up : (s : State) (t : ℕ) → t < upper_count S p → is_upper_task S p t ≡ true → task_state (up S p s) t ≡ task_state s t
  task_state_up s t first high =
      let runs : (running_task (keep (is_upper_id S p) s.running) == t) ≡ (running_task s.running == t) = runs_up s.running t first high in
      let waiting : list_any waits (jobs_of t (up S p s).jobs) ≡ list_any waits (jobs_of t s.jobs) = jobs_of_wait_up S p t s.jobs high in
      let suspended : is_suspended (up S p s) t ≡ is_suspended s t = suspended_up S p s t high in
      λ i. cond (runs i) TaskState.Running (cond (waiting i) TaskState.Waiting (cond (suspended i) TaskState.Suspended TaskState.Ready))

  -- ---- results

  pub results_up : (s : State) (c : Caller) (call : ServiceCall) → IsUpperCaller S p s c → IsUpperCall S p c call → IsTold c call
      → results (upper_core S p) (up S p s) (renumbered_service S p call) ≡ results S s call
  results_up s c (Service.ActivateTask o) upper named told = refl
  results_up s c Service.TerminateTask upper named told = refl
  results_up s c (Service.ChainTask o) upper named told = refl
  results_up s c Service.Schedule upper named told = refl
  results_up s c Service.GetTaskId upper named told = ap Results.One (running_task_up s c upper named told)
  results_up s c (Service.GetTaskState None) upper named told = refl
  results_up s c (Service.GetTaskState (Some t)) upper named told =
      let high : is_upper_task S p t ≡ true = upper_task_named S p t named.names in
      ap (λ z. Results.One (state_number z)) (task_state_up s t (first_tasks S p both t named.known high) high)
  results_up s c (Service.GetResource o) upper named told = refl
  results_up s c (Service.ReleaseResource o) upper named told = refl
  results_up s c (Service.LoadShared None i) upper named told = refl
  results_up s c (Service.LoadShared (Some r) i) upper named told =
      ap Results.One (word_up S p both s r i named.known (visible_named S p r named.names))
  results_up s c (Service.StoreShared o i v) upper named told = refl
  results_up s c (Service.SetEvent o m) upper named told = refl
  results_up s c (Service.ClearEvent m) upper named told = refl
  results_up s c (Service.GetEvent None) upper named told = refl
  results_up s c (Service.GetEvent (Some t)) upper named told =
      let high : is_upper_task S p t ≡ true = upper_task_named S p t named.names in
      ap Results.One (get_or-take (upper_count S p) s.masks t 0 (first_tasks S p both t named.known high))
  results_up s c (Service.WaitEvent m) upper named told = refl
  results_up s c (Service.SetRelAlarm o x y) upper named told = refl
  results_up s c (Service.SetAbsAlarm o x y) upper named told = refl
  results_up s c (Service.CancelAlarm o) upper named told = refl
  results_up s c (Service.GetAlarm None) upper named told = refl
  results_up s c (Service.GetAlarm (Some a)) upper named told =
      let high : is_upper_alarm S p a ≡ true = upper_alarm_named S p a named.names in
      ap₂ (λ n e. Results.One (remaining n e)) (count_up S p both s a named.known high) (expiry_up S p both s a named.known high)
  results_up s c (Service.GetAlarmBase None) upper named told = refl
  results_up s c (Service.GetAlarmBase (Some a)) upper named told =
      ap (λ (k : Counter). Results.Three k.max_allowed_value k.ticks_per_base k.min_cycle)
      (both.counters a named.known (upper_alarm_named S p a named.names))

  pub results_told_up : (s : State) (c : Caller) (call : ServiceCall) (o : Option Status) → IsUpperCaller S p s c → IsUpperCall S p c call → IsTold c call
      → results_told (upper_core S p) (up S p s) (renumbered_service S p call) o ≡ results_told S s call o
  results_told_up s c call None upper named told = results_up s c call upper named told
  results_told_up s c call (Some refusal) upper named told = refl
