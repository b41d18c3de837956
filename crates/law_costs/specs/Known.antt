-- Which jobs and routines runs come to, told by tests: what begins passes them, and what goes on.
use Rattle.std.specs.Prelude.{ℕ, ◌≡◌, ◌<◌, Bool, true, false, List, IfSome, is_some, length}
use Rattle.std.specs.List.{list_any}
use Rattle.osek_base.specs.declared.arrivals.Arrival.{Arrival}
use Rattle.osek_base.specs.declared.ids.ResId.{ResId}
use Rattle.osek_base.specs.Activation.{new_job, woken}
use Rattle.osek_base.specs.Ceiling.{internal_ceiling}
use Rattle.osek_base.specs.GoodState.{IsGood, IsShaped}
use Rattle.osek_base.specs.Reschedule.{entered}
use Rattle.osek_base.specs.Service.{Caller, JobCalls, NobodyCalls, RoutineCalls, caller_holds, caller_may_take, holds}
use Rattle.osek_base.specs.State.{Active, Job, JobId, State, interrupts_off, job_of, waits}
use Rattle.osek_base.specs.System.{System}
use Rattle.osek_base.specs.Tick.{caller_executes, executor}
use Rattle.law_blockers.specs.Steps.{step_at}
use Rattle.law_windows.specs.Routines.{begun}
use Rattle.law_costs.specs.Left.{Switch, on, switch_of}
use Rattle.law_costs.specs.Settable.{AreSettable}

-- ---- tests

-- of a job, and of a routine, with the switch that it finds. They may pass more than runs come to
pub record Known : Type 0 where
  pub job : Switch → Job → Bool
  pub routine : Switch → Active → Bool

abbrev pub IsKnownJob : Known → Switch → Job → Type 0
IsKnownJob known w j = known.job w j ≡ true

abbrev pub IsKnownRoutine : Known → Switch → Active → Type 0
IsKnownRoutine known w a = known.routine w a ≡ true

-- nobody always is
abbrev pub IsKnownCaller : Known → Switch → Caller → Type 0
IsKnownCaller known w (JobCalls j) = IsKnownJob known w j
IsKnownCaller known w (RoutineCalls a) = IsKnownRoutine known w a
IsKnownCaller known w NobodyCalls = Unit {0}

-- ---- an instruction

-- the state behind one that a caller executes in a state
abbrev pub behind_by : System → Caller → State → State
behind_by S who s = (caller_executes S who s).state

-- with interrupts on nobody but the caller holds a resource that it may take
abbrev pub ExcludesOthers : System → Caller → State → Type 0
ExcludesOthers S who s =
    interrupts_off s ≡ false → (r : ResId) → caller_may_take S who r ≡ true
    → list_any (λ k. holds k r) s.jobs ≡ caller_holds who r

-- the caller has taken its internal resource, if it is a job of a task that has one
abbrev pub TakesInternal : System → Caller → Type 0
TakesInternal S (JobCalls j) = j.taken ≡ is_some (internal_ceiling S j.id.task)
TakesInternal S (RoutineCalls a) = Unit {0}
TakesInternal S NobodyCalls = Unit {0}

-- that caller executes in a good state, in which no event is set that isn't settable, and the run
-- isn't over behind it
pub record Executes (S : System) (who : Caller) (s : State) : Type 0 where
  pub good : IsGood S s
  pub shaped : IsShaped S s
  pub calls : executor s ≡ who
  pub excludes : ExcludesOthers S who s
  pub entered : TakesInternal S who
  pub within : AreSettable S s.masks
  pub goes_on : (behind_by S who s).over ≡ false

-- ---- what is known stays known

pub record StaysKnown (S : System) (known : Known) : Type 0 where
  -- a new job, and a routine as it starts
  pub fresh : (n : JobId) → n.task < length S.tasks → IsKnownJob known on (new_job n)
  pub started : (i : ℕ) → i < length S.routines → IsKnownRoutine known on (begun i)
  -- a known job that is dispatched, and one whose wait ends
  pub dispatched : (j : Job) → waits j ≡ false → IsKnownJob known on j
      → IsKnownJob known on (entered S j)
  pub freed : (j : Job) → waits j ≡ true → IsKnownJob known on j → IsKnownJob known on (woken j)
  -- a known job that executes, whatever good state it finds, if it is still there behind that
  pub job : (s : State) (j : Job) → Executes S (JobCalls j) s → IsKnownJob known (switch_of s) j
      → IfSome (job_of j.id (behind_by S (JobCalls j) s).jobs)
      (IsKnownJob known (switch_of (behind_by S (JobCalls j) s)))
  -- and a known routine
  pub routine : (s : State) (a : Active) → Executes S (RoutineCalls a) s
      → IsKnownRoutine known (switch_of s) a
      → IfSome (behind_by S (RoutineCalls a) s).active
      (IsKnownRoutine known (switch_of (behind_by S (RoutineCalls a) s)))

-- ---- in a run

-- the state at the instruction of tick n
abbrev pub at_instruction : System → ℕ → List Arrival → ℕ → State
at_instruction S mode arrivals n = (step_at S mode arrivals n).executing

-- who executes in it is known
abbrev pub IsKnownAt : System → ℕ → List Arrival → Known → ℕ → Type 0
IsKnownAt S mode arrivals known n =
    IsKnownCaller known (switch_of (at_instruction S mode arrivals n))
    (executor (at_instruction S mode arrivals n))
