-- OSEK/VDX OS: event control. Which events may be set for a task: those that programs and alarms
-- set.
use Rattle.std.specs.Prelude.{ℕ, ◌≡◌, ◌==◌, if◌then◌else◌, List, [], ◌∷◌, map, Some, slice_index, bit_or}
use Rattle.std.specs.Int.{bit_at}
use Rattle.osek_base.specs.declared.instr.Instr.{Instr}
use Rattle.osek_base.specs.declared.instr.Service.{Service}
use Rattle.osek_base.specs.System.{Alarm, Routine, System, Task}
use Rattle.osek_base.specs.Tick.{action_call}
use Rattle.osek_base.specs.Types.{ServiceCall}

-- what a call sets for a task
abbrev pub set_for : ℕ → ServiceCall → ℕ
set_for t (Service.SetEvent (Some u) m) = if u == t then m else 0
set_for t call = 0

abbrev pub sets_for : ℕ → Instr → ℕ
sets_for t (Instr.Service call) = set_for t call
sets_for t what = 0

-- ---- of a system

-- the events of all of some masks
abbrev pub all_of : List ℕ → ℕ
all_of [] = 0
all_of (m ∷ ms) = bit_or m (all_of ms)

-- those that a program may set for a task
abbrev pub settable_in : ℕ → List Instr → ℕ
settable_in t program = all_of (map (sets_for t) program)

-- .. the programs of tasks and of routines, and alarms
abbrev pub by_tasks : ℕ → List Task → ℕ
by_tasks t tasks = all_of (map (λ a. settable_in t a.program) tasks)

abbrev pub by_routines : ℕ → List Routine → ℕ
by_routines t routines = all_of (map (λ a. settable_in t a.program) routines)

abbrev pub by_alarms : ℕ → List Alarm → ℕ
by_alarms t alarms = all_of (map (λ a. set_for t (action_call a.action)) alarms)

unfoldable pub settable : System → ℕ → ℕ
settable S t =
    bit_or (bit_or (by_tasks t S.tasks) (by_routines t S.routines)) (by_alarms t S.alarms)

-- ---- of a state

-- events that may all be set for a task
abbrev pub IsSettable : System → ℕ → ℕ → Type 0
IsSettable S t m = (b : ℕ) → bit_at m b ≡ 1 → bit_at (settable S t) b ≡ 1

-- .. of masks, one a task
abbrev pub AreSettable : System → List ℕ → Type 0
AreSettable S masks = (t : ℕ) → IsSettable S t (slice_index masks t)
