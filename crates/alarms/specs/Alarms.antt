-- OSEK/VDX OS: alarms, counters and alarm management. The alarms of a system with their expiries, by counts that never wrap.
use Rattle.std.specs.Prelude.{ℕ, ◌+◌, ◌-◌, ◌/◌, ◌≡◌, ◌<◌, ◌≤◌, Bool, false, if◌then◌else◌, List, [], map, Option, None, Some, length, slice_index_or}
use Rattle.osek_base.specs.declared.limits.TheConstants.{MAX_TICKS}
use Rattle.osek_base.specs.Lists.{below}
use Rattle.osek_base.specs.declared.status.Status.{Status}
use Rattle.osek_base.specs.Types.{ServiceCall}
use Rattle.osek_base.specs.declared.task.Counter.{Counter}
use Rattle.osek_base.specs.System.{System, counter, no_counter}
use Rattle.osek_base.specs.State.{Expiry, State, still}
use Rattle.osek_base.specs.Alarm.{count, expiry, is_due_at, renewed, due_alarms, alarms_advanced}
use Rattle.osek_base.specs.Service.{NobodyCalls, refusals, first_refusal, answer, changed}

-- an expiry for each alarm that is on, the counter of each alarm, and the tick
pub record AlarmTable : Type 0 where
  pub expiries : List (Option Expiry)
  pub counters : List Counter
  pub tick : ℕ

-- there are as many alarms as the system has, and they are on the same counters
pub record IsTableOf (S : System) (a : AlarmTable) : Type 0 where
  pub expiries : length a.expiries ≡ length S.alarms
  pub counters : a.counters ≡ map (λ b. counter S b.counter) S.alarms

-- the counter of an alarm, and its count at the present tick
abbrev pub counter_in : AlarmTable → ℕ → Counter
counter_in a i = slice_index_or a.counters i no_counter

abbrev pub count_in : AlarmTable → ℕ → ℕ
count_in a i = a.tick / (counter_in a i).ticks_per_base

-- a state with these alarms at this tick, still in all else
abbrev pub state_of : System → AlarmTable → State
state_of S a = record (still S) { alarms = a.expiries; tick = a.tick }

-- the refusal of a call, its status, and the expiries after it, by the service table
abbrev pub refusal : System → AlarmTable → ServiceCall → Option Status
refusal S a call = first_refusal (refusals S NobodyCalls (state_of S a) call)

abbrev pub status_of : System → AlarmTable → ServiceCall → Status
status_of S a call = answer (refusal S a call)

abbrev pub after_call : System → AlarmTable → ServiceCall → AlarmTable
after_call S a call = record a { expiries = (changed S NobodyCalls (state_of S a) call (refusal S a call)).alarms }

-- how many counts an expiry is ahead of a count
abbrev pub remaining_at : ℕ → Option Expiry → Option ℕ
remaining_at n None = None
remaining_at n (Some e) = Some (e.count - n)

-- the cycle of an expiry
abbrev pub cycle_of : Option Expiry → Option ℕ
cycle_of None = None
cycle_of (Some e) = Some e.cycle

-- how many counts an alarm has before it expires, where it is on
abbrev pub remaining_of : System → AlarmTable → ℕ → Option ℕ
remaining_of S a i = remaining_at (count S (state_of S a) i) (expiry (state_of S a) i)

-- an alarm at a count: where it is due, it expires
abbrev pub expired_at : ℕ → Option Expiry → Option Expiry
expired_at n e = if is_due_at n e then renewed e else e

-- the next tick, with the alarms as they were
abbrev pub next_tick : AlarmTable → AlarmTable
next_tick a = record a { tick = a.tick + 1 }

-- the alarms that are due, in declaration order, and the alarms once these have expired
abbrev pub due_of : System → AlarmTable → List ℕ
due_of S a = due_alarms S (state_of S a)

abbrev pub expired : System → AlarmTable → AlarmTable
expired S a = record a { expiries = alarms_advanced S (state_of S a) }

-- whether an alarm is due, and the alarms once those that are due have expired, by the table alone
abbrev pub is_due_in : AlarmTable → ℕ → Bool
is_due_in t i = is_due_at (count_in t i) (slice_index_or t.expiries i None)

abbrev pub once_expired : AlarmTable → AlarmTable
once_expired t = record t { expiries = map (λ i. expired_at (count_in t i) (slice_index_or t.expiries i None)) (below (length t.expiries)) }

-- the same alarms some ticks later
abbrev pub later : ℕ → AlarmTable → AlarmTable
later n a = record a { tick = a.tick + n }

-- no alarm is due in so many ticks that follow
abbrev pub AreQuietFor : ℕ → AlarmTable → Type 0
AreQuietFor n t = (k : ℕ) → k < n → (i : ℕ) → i < length t.expiries → is_due_in (later (k + 1) t) i ≡ false

-- of the ticks after a table that is kept, so many passed, and it is known of so many that no alarm is due in them
pub record IsAheadOf (ahead quiet : ℕ) (t : AlarmTable) : Type 0 where
  pub few : ahead ≤ quiet
  pub early : t.tick + quiet < MAX_TICKS
  pub none : AreQuietFor quiet t

-- so many ticks passed at once, in none of which an alarm is due
pub record HavePassed (n : ℕ) (old new : AlarmTable) : Type 0 where
  pub none : (S : System) → IsTableOf S old → (k : ℕ) → k < n → due_of S (later (k + 1) old) ≡ []
  pub after : new ≡ later n old
