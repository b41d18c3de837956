-- OSEK/VDX OS: task management, interrupt processing, alarms. A state as bytes, which tell all that
-- is needed of it but absolute time.
use Rattle.std.specs.Prelude.{ℕ, suc, ◌==◌, Bool, false, if◌then◌else◌, List, [], ◌∷◌, ◌++◌, length, slice_index, slice_index_or}
use Rattle.osek_base.specs.declared.limits.TheConstants.{MAX_TASK_PRIORITY, REGISTERS, WINDOW_WORDS, SHARED_WORDS}
use Rattle.osek_base.specs.declared.ids.ResId.{ResId}
use Rattle.osek_base.specs.declared.ids.Owner.{Owner}
use Rattle.osek_base.specs.System.{System, counter}
use Rattle.osek_base.specs.Instruction.{Context, value}
use Rattle.osek_base.specs.State.{Active, Expiry, shared_word}
use Rattle.law_kept.specs.Kept.{Kept, Slot}
use Rattle.law_future.specs.Need.{Need}
use Rattle.law_future.specs.Alike.{value_at, phase_at}
use Rattle.law_future.specs.Relative.{left_of}
use Rattle.search_keys.specs.Bytes.{each, number, flag, optional, needed}

-- ---- who executes

-- a place, and the registers that are needed
abbrev pub context_key : (ℕ → Bool) → Context → List ℕ
context_key need x = number x.place ++ each REGISTERS (λ r. needed (need r) (value x r))

abbrev pub routine_key : Need → Active → List ℕ
routine_key need a =
    number a.routine ++ context_key (need.registers (Owner.Routine a.routine)) a.context

-- the running task, whether its job has ended, and the active routine
abbrev pub executing_key : Need → Kept → List ℕ
executing_key need o =
    optional number o.running ++ flag o.gone ++ optional (routine_key need) o.active

-- ---- interrupts

abbrev pub interrupts_key : System → Kept → List ℕ
interrupts_key S o =
    each (length S.routines) (λ i. flag (slice_index_or o.pending i false))
    ++ flag o.disabled ++ number o.suspended_all ++ number o.suspended_os

-- ---- tasks

-- a resource that is held: RES_SCHEDULER is 0
abbrev pub resource_key : ResId → List ℕ
resource_key ResId.Scheduler = number 0
resource_key (ResId.Declared r) = number (suc r)

abbrev pub resources_key : List ResId → List ℕ
resources_key [] = []
resources_key (r ∷ rs) = resource_key r ++ resources_key rs

-- the oldest job of a task
abbrev pub job_key : (ℕ → Bool) → Slot → List ℕ
job_key need a =
    flag a.begun ++ flag a.taken ++ number (length a.held) ++ resources_key a.held
    ++ optional number a.waits_for ++ context_key need a.context

-- how many jobs there are, the oldest one, and the events that are set
abbrev pub task_key : Need → Kept → ℕ → List ℕ
task_key need o t =
    number (o.slots t).count
    ++ (if (o.slots t).count == 0 then [] else job_key (need.registers (Owner.Task t)) (o.slots t))
    ++ number (slice_index o.masks t)

-- the tasks that are ready at a level, oldest first, each behind its level, which counts from 1
abbrev pub level_key : ℕ → List ℕ → List ℕ
level_key l [] = []
level_key l (t ∷ ts) = number (suc l) ++ number t ++ level_key l ts

-- from the lowest level up, and 0 at the end
abbrev pub ready_key : ℕ → (ℕ → List ℕ) → List ℕ
ready_key levels queues = each levels (λ l. level_key l (queues l)) ++ number 0

-- ---- time

-- the counts that an alarm has left, and its cycle
abbrev pub expiry_key : Expiry → List ℕ
expiry_key e = number e.count ++ number e.cycle

abbrev pub alarm_key : System → Kept → ℕ → List ℕ
alarm_key S o a = optional expiry_key (left_of S o a)

-- the value of a counter, if it is needed, and for how many ticks it has had it
abbrev pub counter_key : System → Need → Kept → ℕ → List ℕ
counter_key S need o c =
    needed (need.counters c) (value_at (counter S c) o.tick) ++ number (phase_at (counter S c) o.tick)

-- ---- data

-- the words of a window that are needed
abbrev pub window_key : Need → Kept → Owner → List ℕ
window_key need o who = each WINDOW_WORDS (λ i. needed (need.words who i) (o.words who i))

-- the window of a resource, if it is needed
abbrev pub shared_key : Need → Kept → ℕ → List ℕ
shared_key need o r =
    if need.shared r then each SHARED_WORDS (λ i. number (shared_word o.shared r i)) else []

abbrev pub words_key : System → Need → Kept → List ℕ
words_key S need o =
    each (length S.tasks) (λ t. window_key need o (Owner.Task t))
    ++ each (length S.routines) (λ i. window_key need o (Owner.Routine i))
    ++ each (length S.resources) (shared_key need o)

-- ---- all

unfoldable pub key : System → Need → Kept → List ℕ
key S need o =
    executing_key need o
    ++ interrupts_key S o
    ++ each (length S.tasks) (task_key need o)
    ++ ready_key (suc MAX_TASK_PRIORITY) o.queues
    ++ each (length S.alarms) (alarm_key S o)
    ++ each (length S.counters) (counter_key S need o)
    ++ words_key S need o
    ++ flag o.over
