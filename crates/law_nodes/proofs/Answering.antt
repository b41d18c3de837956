-- What a node tells of results is so, and of the registers behind a service.
use Rattle.std.proofs.Common.{◌≡◌, ℕ, ◌+◌, Bool, true, false, cond, List, refl, sym, ap}
use Rattle.std.specs.Prelude.{Option, Some, None, ◌==◌, slice_set}
use Rattle.std.specs.List.{list_any}
use Rattle.osek_base.specs.declared.ids.Owner.{Owner}
use Rattle.osek_base.specs.declared.instr.Service.{Service}
use Rattle.osek_base.specs.declared.status.Status.{Status}
use Rattle.osek_base.specs.declared.status.TaskState.{TaskState}
use Rattle.osek_base.specs.declared.trace_event.Results.{Results}
use Rattle.osek_base.specs.Instruction.{Context, next, with_value}
use Rattle.osek_base.specs.Service.{Caller, is_own_task, is_suspended, results, running_task, state_number, task_state}
use Rattle.osek_base.specs.State.{State, jobs_of, waits}
use Rattle.osek_base.specs.System.{System}
use Rattle.osek_base.specs.Tick.{answered, at_values, status_number, with_results}
use Rattle.osek_base.specs.Types.{ServiceCall}
use Rattle.law_nodes.specs.Services.{Found, Nothing, One, Three, results_of, running_by, with_found}
use Rattle.law_nodes.proofs.Knowing.{AreValues, IsValue, values_set}

abbrev pub IsFound : Found → Results → Type 0
IsFound Nothing Results.Nothing = Unit {0}
IsFound (One u) (Results.One a) = IsValue u a
IsFound (Three u v w) (Results.Three a b c) = IsValue u a × IsValue v b × IsValue w c
IsFound _ _ = ⊥

-- ---- registers behind a service

abbrev pub result_registers : Results → List ℕ → List ℕ
result_registers Results.Nothing registers = registers
result_registers (Results.One a) registers = slice_set registers 1 a
result_registers (Results.Three a b c) registers =
    slice_set (slice_set (slice_set registers 1 a) 2 b) 3 c

results_are : (r : Results) (x : Context)
    → with_results r x ≡ record x { registers = result_registers r x.registers }
results_are Results.Nothing x = refl
results_are (Results.One a) x = refl
results_are (Results.Three a b c) x = refl

-- the context behind it
abbrev pub answered_context : Status → Results → Context → Context
answered_context status r x =
    record {
      registers = result_registers r (slice_set x.registers 0 (status_number status));
      place = x.place + 1;
    }

pub answered_is : (status : Status) (r : Results) (x : Context)
    → answered status r x ≡ answered_context status r x
answered_is status r x = ap next (results_are r (with_value x 0 (status_number status)))

found_values : (f : Found) (r : Results) → IsFound f r → (os : List (Option ℕ)) (vs : List ℕ)
    → AreValues os vs → AreValues (with_found f os) (result_registers r vs)
found_values Nothing Results.Nothing is os vs all = all
found_values Nothing (Results.One a) is os vs all = absurd is
found_values Nothing (Results.Three a b c) is os vs all = absurd is
found_values (One u) Results.Nothing is os vs all = absurd is
found_values (One u) (Results.One a) is os vs all = values_set os vs all 1 u a is
found_values (One u) (Results.Three a b c) is os vs all = absurd is
found_values (Three u v w) Results.Nothing is os vs all = absurd is
found_values (Three u v w) (Results.One a) is os vs all = absurd is
found_values (Three u v w) (Results.Three a b c) is os vs all =
    let one = values_set os vs all 1 u a is.0 in
    let two = values_set (slice_set os 1 u) (slice_set vs 1 a) one 2 v b is.1 in
    values_set (slice_set (slice_set os 1 u) 2 v) (slice_set (slice_set vs 1 a) 2 b) two 3 w c is.2

pub answered_values : (status : Status) (f : Found) (r : Results) → IsFound f r
    → (os : List (Option ℕ)) (x : Context) → AreValues os x.registers
    → AreValues (with_found f (slice_set os 0 (Some (status_number status))))
    (answered_context status r x).registers
answered_values status f r is os x all =
    found_values f r is (slice_set os 0 (Some (status_number status)))
    (slice_set x.registers 0 (status_number status))
    (values_set os x.registers all 0 (Some (status_number status)) (status_number status) refl)

-- ---- results

-- of who executes in a state it is told which task runs, and whether that asks for its own state
pub record TellsRunning (s : State) (who : Owner) (c : Caller) : Type 0 where
  pub runs : IsValue (running_by who) (running_task s.running)
  pub own : (t : ℕ) → is_own_task c t ≡ true → (running_task s.running == t) ≡ true

module _ (S : System) (s : State) (who : Owner) (c : Caller) (tells : TellsRunning s who c)
    (x : Context) where
  state_told : (t : ℕ)
      → IsValue (cond (is_own_task c t) (Some (state_number TaskState.Running)) None)
      (state_number (task_state s t))
  state_told t = go (is_own_task c t) (tells.own t)
    where
      otherwise : TaskState
      otherwise =
          cond (list_any waits (jobs_of t s.jobs)) TaskState.Waiting
          (cond (is_suspended s t) TaskState.Suspended TaskState.Ready)

      go : (b : Bool) → (b ≡ true → (running_task s.running == t) ≡ true)
          → IsValue (cond b (Some (state_number TaskState.Running)) None)
          (state_number (task_state s t))
      go true own =
          sym (ap (λ d. state_number (cond d TaskState.Running otherwise)) (own refl))
      go false own = tt

  pub results_told : (call : ServiceCall)
      → IsFound (results_of S who c call) (results S s (at_values x call))
  results_told (Service.ActivateTask o) = tt
  results_told Service.TerminateTask = tt
  results_told (Service.ChainTask o) = tt
  results_told Service.Schedule = tt
  results_told Service.GetTaskId = tells.runs
  results_told (Service.GetTaskState None) = tt
  results_told (Service.GetTaskState (Some t)) = state_told t
  results_told (Service.GetResource o) = tt
  results_told (Service.ReleaseResource o) = tt
  results_told (Service.LoadShared None i) = tt
  results_told (Service.LoadShared (Some r) i) = tt
  results_told (Service.StoreShared o i v) = tt
  results_told (Service.SetEvent o m) = tt
  results_told (Service.ClearEvent m) = tt
  results_told (Service.GetEvent None) = tt
  results_told (Service.GetEvent (Some t)) = tt
  results_told (Service.WaitEvent m) = tt
  results_told (Service.SetRelAlarm o increment cycle) = tt
  results_told (Service.SetAbsAlarm o start cycle) = tt
  results_told (Service.CancelAlarm o) = tt
  results_told (Service.GetAlarm None) = tt
  results_told (Service.GetAlarm (Some a)) = tt
  results_told (Service.GetAlarmBase None) = tt
  results_told (Service.GetAlarmBase (Some a)) = (refl, refl, refl)
