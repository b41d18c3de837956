-- What costs have to pay, but for instructions: what comes, what a dispatch and boot begin.
use Rattle.std.specs.Prelude.{ℕ, ◌+◌, ◌≡◌, ◌<◌, ◌≤◌, Bool, true, false, nat_le, Some, length, bit_or}
use Rattle.std.specs.List.{filter, sum_by}
use Rattle.osek_base.specs.declared.instr.Service.{Service}
use Rattle.osek_base.specs.Activation.{new_job, woken}
use Rattle.osek_base.specs.Priority.{dynamic_priority, static_priority}
use Rattle.osek_base.specs.Reschedule.{entered}
use Rattle.osek_base.specs.Service.{is_met}
use Rattle.osek_base.specs.State.{Active, Job, JobId, waits}
use Rattle.osek_base.specs.System.{System, alarm, is_extended, priority_of}
use Rattle.osek_base.specs.Tick.{action_call}
use Rattle.osek_base.specs.Trace.{starting_tasks}
use Rattle.osek_base.specs.Types.{ServiceCall}
use Rattle.law_windows.specs.Routines.{begun}
use Rattle.law_windows.specs.Work.{goes_at}
use Rattle.law_costs.specs.Left.{Switch, Weights, counts, of_all_alarms, on}
use Rattle.law_costs.specs.Known.{IsKnownJob, IsKnownRoutine, Known}

-- whether a task is of the level
abbrev pub is_upper : System → ℕ → ℕ → Bool
is_upper S p t = nat_le p (priority_of S t)

-- what a service starts where it isn't refused
abbrev pub start_of : Weights → ServiceCall → ℕ
start_of c (Service.ActivateTask (Some t)) = c.of_task t
start_of c (Service.ChainTask (Some t)) = c.of_task t
start_of c (Service.SetEvent (Some t) m) = c.of_event t m
start_of c call = 0

-- who is known costs something: a routine, and a job that counts
pub record CostSomething (S : System) (p : ℕ) (c : Weights) (known : Known) : Type 0 where
  pub active : (w : Switch) (a : Active) → IsKnownRoutine known w a → 1 ≤ c.of_active w a
  pub job : (m : ℕ) (w : Switch) (j : Job) → IsKnownJob known w j → counts S p w j ≡ true
      → 1 ≤ c.of_job m w j

-- a dispatch takes nothing from a job that counts already; a section that it begins is paid, and no
-- more than may be where a window begins, whatever alarms are set; and sections of lower jobs cost
-- the same, whatever events are set
pub record PayForDispatch (S : System) (p : ℕ) (c : Weights) : Type 0 where
  pub entering : (m : ℕ) (j : Job) → waits j ≡ false → p ≤ dynamic_priority S j
      → c.of_job m on (entered S j) ≤ c.of_job m on j
  pub beginning : (m : ℕ) (j : Job) → waits j ≡ false → dynamic_priority S j < p
      → p ≤ dynamic_priority S (entered S j) → c.of_job m on (entered S j) ≤ c.of_section
  pub section : c.of_section + of_all_alarms S c ≤ c.costs.at_begin
  pub lower : (m n : ℕ) (w : Switch) (j : Job) → priority_of S j.id.task < p
      → c.of_job m w j ≤ c.of_job n w j

-- an activation pays for a whole job, of which a new one of an extended task finds no event set.
-- Events pay for what comes behind the wait of a known job that they release, and for what more is
-- left of one that doesn't wait
pub record PayForStarts (S : System) (p : ℕ) (c : Weights) (known : Known) : Type 0 where
  pub task : (n : JobId) (m : ℕ) → p ≤ priority_of S n.task
      → (is_extended S n.task ≡ true → m ≡ 0) → c.of_job m on (new_job n) ≤ c.of_task n.task
  -- m were set before, and didn't release it
  pub event : (m x : ℕ) (j : Job) → IsKnownJob known on j → p ≤ static_priority S j
      → waits j ≡ true → is_met m j.waits_for ≡ false → is_met (bit_or m x) j.waits_for ≡ true
      → c.of_job (bit_or m x) on (woken j) ≤ c.of_event j.id.task x
  pub more : (m x : ℕ) (w : Switch) (j : Job) → IsKnownJob known w j → waits j ≡ false
      → c.of_job (bit_or m x) w j ≤ c.of_job m w j + c.of_event j.id.task x

-- an interrupt of a routine of the level pays for the whole routine; an expiry, with what its alarm
-- holds, for what that starts
pub record PayForComing (S : System) (p : ℕ) (c : Weights) : Type 0 where
  pub routine : (i : ℕ) → i < length S.routines → goes_at S p i ≡ true
      → c.of_active on (begun i) ≤ c.costs.of_arrival i
  pub alarm : (a : ℕ) → a < length S.alarms
      → start_of c (action_call (alarm S a).action) ≤ c.costs.of_expiry a + c.of_alarm a

-- where a window begins with the run it has the tasks of the level that start with it, or the
-- section that the first dispatch begins; and whatever alarms are set
pub record PayForBoot (S : System) (mode p : ℕ) (c : Weights) : Type 0 where
  pub tasks : sum_by c.of_task (filter (is_upper S p) (starting_tasks S mode)) + of_all_alarms S c
      ≤ c.costs.at_boot
  pub section : c.of_section + of_all_alarms S c ≤ c.costs.at_boot
