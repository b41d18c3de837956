-- OSEK/VDX OS: task management, task state model; interrupt processing, category 2. Work of a
-- level: of all that goes before the tasks, or the routines, below it.
use Rattle.std.specs.Prelude.{ℕ, ◌+◌, ◌≡◌, Bool, true, false, not, ◌&&◌, ◌||◌, nat_le, List, Option, Some, None, length}
use Rattle.std.specs.List.{list_any}
use Rattle.osek_base.specs.declared.arrivals.Arrival.{Arrival}
use Rattle.osek_base.specs.Ceiling.{top_priority}
use Rattle.osek_base.specs.Lists.{below}
use Rattle.osek_base.specs.Priority.{static_priority}
use Rattle.osek_base.specs.Proper.{IsProper}
use Rattle.osek_base.specs.State.{Active, Job, State, waits}
use Rattle.osek_base.specs.System.{System, routine}
use Rattle.osek_base.specs.Tick.{is_pending}
use Rattle.osek_base.specs.Trace.{run}
use Rattle.law_blockers.specs.Steps.{step_at}

-- ---- levels

-- the level of a task is its static priority; routines, by their priorities, lie above all tasks
abbrev pub level_of_routine : System → ℕ → ℕ
level_of_routine S i = top_priority S + 1 + (routine S i).priority

-- whether a routine is of a level: all routines are up to the one just above all tasks
abbrev pub goes_at : System → ℕ → ℕ → Bool
goes_at S p i = nat_le p (level_of_routine S i)

-- ---- work

-- a job of the level that is READY or RUNNING
abbrev pub is_work : System → ℕ → Job → Bool
is_work S p j = not (waits j) && nat_le p (static_priority S j)

-- the active routine is of the level
abbrev pub is_active_at : System → ℕ → Option Active → Bool
is_active_at S p None = false
is_active_at S p (Some a) = goes_at S p a.routine

-- a pending routine of the level, and whether there is one
abbrev pub is_pending_at : System → ℕ → State → ℕ → Bool
is_pending_at S p s i = is_pending s i && goes_at S p i

abbrev pub some_pending : System → ℕ → State → Bool
some_pending S p s = list_any (is_pending_at S p s) (below (length S.routines))

-- a routine of the level is active or pending, or a job of it stands
abbrev pub has_work : System → ℕ → State → Bool
has_work S p s =
    is_active_at S p s.active || (some_pending S p s || list_any (is_work S p) s.jobs)

-- work stands behind so many ticks of a run: between the last of them and the next one
abbrev pub has_work_after : System → ℕ → List Arrival → ℕ → ℕ → Bool
has_work_after S mode arrivals p n = has_work S p (run S mode arrivals n).state

-- a tick is busy: at its instruction work stands
abbrev pub is_busy : System → ℕ → List Arrival → ℕ → ℕ → Bool
is_busy S mode arrivals p n = has_work S p (step_at S mode arrivals n).executing

-- ---- the law

-- a tick before which work stands is busy
abbrev pub WorkStays : Type 0
WorkStays =
    (S : System) (mode : ℕ) (arrivals : List Arrival) (p n : ℕ) → IsProper S
    → (run S mode arrivals n).state.over ≡ false → has_work_after S mode arrivals p n ≡ true
    → is_busy S mode arrivals p n ≡ true
