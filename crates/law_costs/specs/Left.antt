-- What is left of a level's work in a state, by costs of who executes as it stands.
use Rattle.std.specs.Prelude.{ℕ, ◌+◌, Bool, false, not, ◌&&◌, ◌||◌, nat_le, nat_lt, if◌then◌else◌, List, Option, Some, None, is_some, length, slice_index, slice_index_or}
use Rattle.std.specs.List.{filter, list_any, sum_by}
use Rattle.osek_base.specs.Blocker.{is_job}
use Rattle.osek_base.specs.Lists.{below}
use Rattle.osek_base.specs.Priority.{dynamic_priority}
use Rattle.osek_base.specs.State.{Active, Expiry, Job, State, waits}
use Rattle.osek_base.specs.System.{System}
use Rattle.law_future.specs.Shown.{chosen_of}
use Rattle.law_windows.specs.Coming.{Costs}
use Rattle.law_windows.specs.Work.{is_pending_at}

-- ---- interrupts, for who executes

-- the switch of interrupts, and how often each kind is suspended
pub record Switch : Type 0 where
  pub disabled : Bool
  pub suspended_all : ℕ
  pub suspended_os : ℕ

abbrev pub on : Switch
on = record { disabled = false; suspended_all = 0; suspended_os = 0 }

abbrev pub is_off : Switch → Bool
is_off w = w.disabled || nat_lt 0 w.suspended_all || nat_lt 0 w.suspended_os

abbrev pub switch_of : State → Switch
switch_of s =
    record {
      disabled = s.disabled;
      suspended_all = s.suspended_all;
      suspended_os = s.suspended_os;
    }

-- as a job finds it when it executes: the running job as it is, any other one on, and so each job
-- behind a routine
abbrev pub switch_for : State → Job → Switch
switch_for s j = if not (is_some s.active) && is_job s.running j.id then switch_of s else on

-- ---- costs

-- instructions of a level that are counted: those of who executes as it stands, from there to its
-- end or to where an event pays again, and those of all that it starts
pub record Weights : Type 0 where
  -- of the active routine: of a lower one too, to its end
  pub of_active : Switch → Active → ℕ
  -- of a job of the level, by the events that are set for its task; of a lower one, to the end of
  -- the section in which it is
  pub of_job : ℕ → Switch → Job → ℕ
  -- of an activation of a task, and of events that are set for one
  pub of_task : ℕ → ℕ
  pub of_event : ℕ → ℕ → ℕ
  -- of the section of a lower job that a dispatch begins
  pub of_section : ℕ
  -- of an alarm that is set, where it pays for its expiry; of any other alarm nothing
  pub of_alarm : ℕ → ℕ
  -- of an interrupt, of an expiry, and where a window begins
  pub costs : Costs

-- ---- the quantity

-- a job counts that doesn't wait and goes before the tasks below the level: one of the level, or a
-- lower one in a section, by its dynamic priority or with interrupts off
abbrev pub counts : System → ℕ → Switch → Job → Bool
counts S p w j = not (waits j) && (is_off w || nat_le p (dynamic_priority S j))

-- by the events that are set, a mask a task
abbrev pub left_of_job : System → ℕ → Weights → List ℕ → (Job → Switch) → Job → ℕ
left_of_job S p c masks find j =
    if counts S p (find j) j then c.of_job (slice_index masks j.id.task) (find j) j else 0

-- of the jobs that count; where none does, of the section that the next dispatch may begin
abbrev pub left_of_jobs : System → ℕ → Weights → List ℕ → (Job → Switch) → List Job → ℕ
left_of_jobs S p c masks find jobs =
    if list_any (λ j. counts S p (find j) j) jobs then sum_by (left_of_job S p c masks find) jobs
    else c.of_section

abbrev pub left_of_active : Weights → Switch → Option Active → ℕ
left_of_active c w None = 0
left_of_active c w (Some a) = c.of_active w a

-- of the routines of the level that are pending
abbrev pub left_of_pending : System → ℕ → Weights → State → ℕ
left_of_pending S p c s = sum_by c.costs.of_arrival (chosen_of S (is_pending_at S p s))

-- of the alarms that are set
abbrev pub left_of_alarms : System → Weights → List (Option Expiry) → ℕ
left_of_alarms S c alarms =
    sum_by c.of_alarm
    (filter (λ a. is_some (slice_index_or alarms a None)) (below (length S.alarms)))

-- .. if all are set
abbrev pub of_all_alarms : System → Weights → ℕ
of_all_alarms S c = sum_by c.of_alarm (below (length S.alarms))

-- of all of them
abbrev pub left : System → ℕ → Weights → State → ℕ
left S p c s =
    left_of_active c (switch_of s) s.active
    + (left_of_pending S p c s
    + (left_of_jobs S p c s.masks (switch_for s) s.jobs + left_of_alarms S c s.alarms))
