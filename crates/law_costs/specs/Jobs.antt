-- Costs of jobs, by one inequality for each instruction of a known job.
use Rattle.std.specs.Prelude.{ℕ, ◌+◌, ◌≡◌, ◌<◌, ◌≤◌, true, if◌then◌else◌, Option, Some, None, List, slice_index}
use Rattle.osek_base.specs.Service.{JobCalls}
use Rattle.osek_base.specs.State.{Job, State, job_of}
use Rattle.osek_base.specs.System.{System, priority_of}
use Rattle.law_alarms.specs.Setting.{call_by}
use Rattle.law_costs.specs.Left.{Switch, Weights, counts, is_off, of_all_alarms, switch_of}
use Rattle.law_costs.specs.Known.{Executes, IsKnownJob, Known, behind_by}
use Rattle.law_costs.specs.Routines.{set_by, started_by}

-- ---- what an instruction of a job leaves, starts and sets

-- where a job no longer counts: the section that a dispatch may begin, if interrupts were off
abbrev pub left_of_section : Weights → Switch → ℕ
left_of_section c before = if is_off before then c.of_section else 0

-- of a job behind its instruction, by the events that are set behind that, and by the switch before
-- and behind: its cost, if it counts
abbrev pub left_of_own : System → ℕ → Weights → List ℕ → Switch → Switch → Option Job → ℕ
left_of_own S p c masks before w None = left_of_section c before
left_of_own S p c masks before w (Some j) =
    if counts S p w j then c.of_job (slice_index masks j.id.task) w j else left_of_section c before

-- the state behind an instruction that a job executes in a state, and what is left of it there
abbrev pub behind : System → State → Job → State
behind S s j = behind_by S (JobCalls j) s

abbrev pub left_behind : System → ℕ → Weights → State → Job → ℕ
left_behind S p c s j =
    left_of_own S p c (behind S s j).masks (switch_of s) (switch_of (behind S s j))
    (job_of j.id (behind S s j).jobs)

-- what the instruction starts
abbrev pub started : System → Weights → State → Job → ℕ
started S c s j = started_by S c (JobCalls j) s (call_by S (JobCalls j))

-- what it sets
abbrev pub set : System → Weights → State → Job → ℕ
set S c s j = set_by S c (JobCalls j) s (call_by S (JobCalls j))

-- ---- what is asked

-- what is left of a job behind an instruction that it executes, and what that starts and sets, is
pub record PaysIn (S : System) (p : ℕ) (c : Weights) (s : State) (j : Job) : Type 0 where
  -- one less at least, where the job counts
  pub takes : counts S p (switch_of s) j ≡ true
      → left_behind S p c s j + (started S c s j + (set S c s j + 1))
      ≤ c.of_job (slice_index s.masks j.id.task) (switch_of s) j
  -- no more than may be where a window begins, where its task is below the level: whatever is set,
  -- no more than all alarms are
  pub begins : priority_of S j.id.task < p
      → left_behind S p c s j + (started S c s j + of_all_alarms S c) ≤ c.costs.at_begin

-- so it is where a known job executes, whatever good state it finds
abbrev pub PayForJobs : System → ℕ → Weights → Known → Type 0
PayForJobs S p c known =
    (s : State) (j : Job) → Executes S (JobCalls j) s → IsKnownJob known (switch_of s) j
    → PaysIn S p c s j
