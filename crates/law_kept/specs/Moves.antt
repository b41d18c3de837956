-- OSEK/VDX OS: task management. What the code does to what it keeps.
use Rattle.std.specs.Prelude.{ℕ, suc, ◌+◌, ◌-◌, max, Bool, true, false, not, ◌&&◌, ◌==◌, nat_le, nat_lt, ◌||◌, if◌then◌else◌, List, [], ◌++◌, map, Option, Some, None, is_some, slice_set, unwrap_or}
use Rattle.osek_base.specs.declared.trace_event.TraceEvent.{TraceEvent}
use Rattle.osek_base.specs.Reschedule.{hooked, Recorded}
use Rattle.osek_base.specs.Lists.{greatest}
use Rattle.osek_base.specs.System.{System, priority_of, is_extended}
use Rattle.osek_base.specs.Ceiling.{ceiling, internal_ceiling, top_priority}
use Rattle.ready_queues.specs.QueueMoves.{changed_at, put_newest, put_oldest, first, without_first_at_level, highest}
use Rattle.law_kept.specs.Kept.{Kept, Slot, unbegun, kept}

-- a task has one more job
abbrev pub one_more : Slot → Slot
one_more a = record a { count = a.count + 1 }

-- activation
abbrev pub activated_in : System → ℕ → Kept → Kept
activated_in S t o =
    record o {
      queues = put_newest o.queues (priority_of S t) t;
      slots = changed_at o.slots t (one_more (o.slots t));
      masks = if is_extended S t && ((o.slots t).count == 0) then slice_set o.masks t 0 else o.masks;
    }

-- the running job ends
abbrev pub ended_in : ℕ → Kept → Kept
ended_in t o = record o { slots = changed_at o.slots t (unbegun ((o.slots t).count - 1)); gone = true }

-- the slot of the running task is changed
abbrev pub slot_changed : ℕ → (Slot → Slot) → Kept → Kept
slot_changed t g o = record o { slots = changed_at o.slots t (g (o.slots t)) }

abbrev pub slot_woken : Slot → Slot
slot_woken a = record a { waits_for = None }

-- the job of a task that waits is released
abbrev pub released_in : System → ℕ → Kept → Kept
released_in S t o =
    record o {
      queues = put_newest o.queues (priority_of S t) t;
      slots = changed_at o.slots t (slot_woken (o.slots t));
    }

-- ---- reschedule

-- the dynamic priority of a task's oldest job
abbrev pub dynamic_in : System → ℕ → Slot → ℕ
dynamic_in S t a =
    max (priority_of S t)
    (max (greatest (map (ceiling S) a.held)) (if a.taken then unwrap_or (internal_ceiling S t) 0 else 0))

abbrev pub slot_entered : System → ℕ → Slot → Slot
slot_entered S t a = record a { begun = true; taken = is_some (internal_ceiling S t) }

-- the records that something makes, and what it leaves
pub record KeptRecorded : Type 0 where
  pub events : List TraceEvent
  pub state : Kept

-- the Post record of the old running task, and the Pre record of the new one
abbrev pub left_in : System → Option ℕ → List TraceEvent
left_in S None = []
left_in S (Some t) = hooked S.hooks.post_task (TraceEvent.Post t)

abbrev pub entered_in : System → ℕ → List TraceEvent
entered_in S t = hooked S.hooks.pre_task (TraceEvent.Pre t)

-- no task runs; the task runs on; the first of a level runs, out of these queues
abbrev pub nobody : System → Kept → KeptRecorded
nobody S o = record { events = left_in S o.running; state = record o { running = None; gone = false } }

abbrev pub stays : System → ℕ → Kept → KeptRecorded
stays S t o = record { events = []; state = slot_changed t (slot_entered S t) o }

-- a task runs, the first of a level of these queues
abbrev pub entered_as : System → ℕ → ℕ → (ℕ → List ℕ) → Kept → Kept
entered_as S t l q o =
    record o {
      queues = without_first_at_level q l;
      slots = changed_at o.slots t (slot_entered S t (o.slots t));
      running = Some t;
      gone = false;
    }

abbrev pub dispatched : System → ℕ → (ℕ → List ℕ) → Kept → KeptRecorded
dispatched S l q o =
    record { events = left_in S o.running ++ entered_in S (first (q l)); state = entered_as S (first (q l)) l q o }

-- the running task, if its job stands and doesn't wait
abbrev pub contender_of : Option ℕ → Bool → (ℕ → Slot) → Option ℕ
contender_of None gone slots = None
contender_of (Some t) gone slots = if gone then None else (if is_some (slots t).waits_for then None else Some t)

abbrev pub contender : Kept → Option ℕ
contender o = contender_of o.running o.gone o.slots

-- the contender against the first of the highest level; it stays where they are equal
abbrev pub chosen : System → Option ℕ → Option ℕ → Kept → KeptRecorded
chosen S None None o = nobody S o
chosen S None (Some l) o = dispatched S l o.queues o
chosen S (Some t) None o = stays S t o
chosen S (Some t) (Some l) o =
    if nat_le l (dynamic_in S t (o.slots t)) then stays S t o
    else dispatched S l (put_oldest o.queues (dynamic_in S t (o.slots t)) t) o

abbrev pub may_dispatch_in : Kept → Bool
may_dispatch_in o = not (is_some o.active) && not (o.disabled || nat_lt 0 o.suspended_all || nat_lt 0 o.suspended_os)

unfoldable pub rescheduled : System → Kept → KeptRecorded
rescheduled S o =
    if may_dispatch_in o then chosen S (contender o) (highest (suc (top_priority S)) o.queues) o
    else record { events = []; state = o }

-- what was recorded, kept
abbrev pub kept_recorded : System → Recorded → KeptRecorded
kept_recorded S r = record { events = r.events; state = kept S r.state }
