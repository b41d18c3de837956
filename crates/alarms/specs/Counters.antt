-- OSEK/VDX OS: counters and alarm management. Counters with their running alarms, and the table of all alarms that they
-- stand for.
use Rattle.std.specs.Prelude.{ℕ, ◌+◌, ◌-◌, ◌*◌, ◌/◌, ◌≡◌, ◌≤◌, ◌<◌, ◌^◌, List, [], map, Bool, Option, None, length, true, slice_index_or, if◌then◌else◌, ◌==◌}
use Rattle.osek_base.specs.declared.limits.TheConstants.{MAX_TICKS, MAX_ALARMS}
use Rattle.osek_base.specs.declared.task.Counter.{Counter}
use Rattle.osek_base.specs.Lists.{below}
use Rattle.osek_base.specs.System.{no_counter}
use Rattle.osek_base.specs.State.{Expiry}
use Rattle.alarms.specs.declared.counter_alarms.CounterAlarms.{CounterAlarms}
use Rattle.alarms.specs.Alarms.{AlarmTable, expired_at}
use Rattle.alarms.specs.Waits.{wait_of, expiry_at, are_ahead, are_apart, are_beyond}

-- a counter at 0 with no running alarm: it grows first once its base has passed
abbrev pub idle : Counter → CounterAlarms
idle c = record { counter = c; next = c.ticks_per_base; running = [] }

-- what stands for a counter that isn't there
abbrev pub no_alarms : CounterAlarms
no_alarms = idle no_counter

-- the count of a counter at a tick, and the expiry of an alarm of it
abbrev pub count_of : ℕ → CounterAlarms → ℕ
count_of tick k = tick / k.counter.ticks_per_base

abbrev pub expiry_in : ℕ → CounterAlarms → ℕ → Option Expiry
expiry_in tick k a = expiry_at (count_of tick k) (wait_of a k.running)

-- what holds of a counter between ticks: its limits, when it grows, no wait is over, and no alarm runs twice
pub record IsReady (tick : ℕ) (k : CounterAlarms) : Type 0 where
  pub base : 1 ≤ k.counter.ticks_per_base
  pub round : k.counter.max_allowed_value < 2 ^ 31
  pub next_is : k.next ≡ count_of tick k * k.counter.ticks_per_base + k.counter.ticks_per_base
  pub ahead : are_ahead k.running ≡ true
  pub apart : are_apart k.running ≡ true

-- how many counts a counter grows in the ticks after this one, and whether none of its alarms is due in them
abbrev pub growth : ℕ → ℕ → CounterAlarms → ℕ
growth tick n k = count_of (tick + n) k - count_of tick k

abbrev pub is_quiet_for : ℕ → ℕ → CounterAlarms → Bool
is_quiet_for tick n k = are_beyond (growth tick n k) k.running

-- the counter of that number, and that of an alarm, by the numbers of the alarms' counters
abbrev pub counter_at : List CounterAlarms → ℕ → CounterAlarms
counter_at ks k = slice_index_or ks k no_alarms

abbrev pub number_of : List ℕ → ℕ → ℕ
number_of numbers a = slice_index_or numbers a 0

abbrev pub counter_with : List CounterAlarms → List ℕ → ℕ → CounterAlarms
counter_with ks numbers a = counter_at ks (number_of numbers a)

-- the table of all alarms
abbrev pub expiries_of : ℕ → List CounterAlarms → List ℕ → List (Option Expiry)
expiries_of tick ks numbers = map (λ a. expiry_in tick (counter_with ks numbers a) a) (below (length numbers))

abbrev pub counters_of : List CounterAlarms → List ℕ → List Counter
counters_of ks numbers = map (λ k. (counter_at ks k).counter) numbers

abbrev pub table_of : ℕ → List CounterAlarms → List ℕ → AlarmTable
table_of tick ks numbers = record {
  expiries = expiries_of tick ks numbers;
  counters = counters_of ks numbers;
  tick = tick;
}

-- the counters of a system's alarms: all are ready, there is one for each alarm, and an alarm runs on no other
pub record AreWhole (tick : ℕ) (ks : List CounterAlarms) (numbers : List ℕ) : Type 0 where
  pub early : tick < MAX_TICKS
  pub few : length numbers ≤ MAX_ALARMS
  pub ready : (k : ℕ) → k < length ks → IsReady tick (counter_at ks k)
  pub known : (a : ℕ) → a < length numbers → number_of numbers a < length ks
  pub own : (k a : ℕ) → k < length ks → (a < length numbers → number_of numbers a ≡ k → ⊥) → expiry_in tick (counter_at ks k) a ≡ None

-- one alarm of a counter has another expiry
pub record IsChanged (tick : ℕ) (old new : CounterAlarms) (a : ℕ) (e : Option Expiry) : Type 0 where
  pub ready : IsReady tick new
  pub counter : new.counter ≡ old.counter
  pub expiries : (b : ℕ) → expiry_in tick new b ≡ (if a == b then e else expiry_in tick old b)

-- the counters have gone through some ticks, and the alarms that are due in the last of them expired
pub record AreAdvanced (tick n : ℕ) (old new : List CounterAlarms) : Type 0 where
  pub same : length new ≡ length old
  pub ready : (k : ℕ) → k < length old → IsReady (tick + n) (counter_at new k)
  pub counters : (k : ℕ) → k < length old → (counter_at new k).counter ≡ (counter_at old k).counter
  pub expiries : (k a : ℕ) → k < length old
      → expiry_in (tick + n) (counter_at new k) a ≡ expired_at (count_of (tick + n) (counter_at old k)) (expiry_in tick (counter_at old k) a)
