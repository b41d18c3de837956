-- What stands at the place of an alarm in the table, and of an element that is written.
use Rattle.std.proofs.Common.{ℕ, zero, suc, ◌≡◌, ◌<◌, ◌/◌, List, [], ◌∷◌, map, length, set, drop, get_or, None, refl, sym, ◌∙◌, ap, ap₂, ◌+◌, arith}
use Rattle.std.specs.List.{refill}
use Rattle.std.proofs.Math.ListN.{drop_of_length-le}
use Rattle.std.proofs.Math.Seq.{take-length}
use Rattle.std.proofs.lemmas.List.{append-nil, length-set}
use Rattle.osek_base.specs.declared.task.Counter.{Counter}
use Rattle.osek_base.specs.System.{System, Alarm, counter, counter_of, no_alarm, no_counter}
use Rattle.osek_base.specs.Alarm.{count}
use Rattle.alarms.specs.declared.counter_alarms.CounterAlarms.{CounterAlarms}
use Rattle.alarms.specs.Alarms.{AlarmTable, IsTableOf, state_of, counter_in, count_in, remaining_at, cycle_of, later}
use Rattle.alarms.specs.Waits.{wait_of, cycle_in}
use Rattle.alarms.specs.Counters.{count_of, expiry_in, counter_with, expiries_of, counters_of, table_of}
use Rattle.alarms.proofs.CountLemmas.{cycle_of_expiry}
use Rattle.alarms.proofs.TableLemmas.{length-map-below, at_below}

-- an element of a vector is written
pub refill_set : {X : Type 0} (xs : List X) (i : ℕ) (y : X) → refill (length xs) xs (set xs i y) ≡ set xs i y
refill_set xs i y =
    let long : length (set xs i y) ≡ length xs = length-set xs i y in
    let none : drop (length (set xs i y)) xs ≡ [] = drop_of_length-le xs (omega arith) in
    rw (none, append-nil, ← long, take-length) refl

module _ (tick : ℕ) (ks : List CounterAlarms) (numbers : List ℕ) where
  pub length-expiries : length (expiries_of tick ks numbers) ≡ length numbers
  length-expiries = length-map-below (λ a. expiry_in tick (counter_with ks numbers a) a) (length numbers)

  pub expiry_there : (a : ℕ) → a < length numbers → get_or (expiries_of tick ks numbers) a None ≡ expiry_in tick (counter_with ks numbers a) a
  expiry_there a low = at_below (λ b. expiry_in tick (counter_with ks numbers b) b) None (length numbers) a low

counter_within : (ks : List CounterAlarms) (numbers : List ℕ) (a : ℕ) → a < length numbers
    → get_or (counters_of ks numbers) a no_counter ≡ (counter_with ks numbers a).counter
counter_within ks [] a low = absurd (omega arith)
counter_within ks (n ∷ numbers) zero low = refl
counter_within ks (n ∷ numbers) (suc a) low = counter_within ks numbers a (omega arith)

counter_declared : (S : System) (alarms : List Alarm) (a : ℕ) → a < length alarms
    → get_or (map (λ b. counter S b.counter) alarms) a no_counter ≡ counter S (get_or alarms a no_alarm).counter
counter_declared S [] a low = absurd (omega arith)
counter_declared S (b ∷ alarms) zero low = refl
counter_declared S (b ∷ alarms) (suc a) low = counter_declared S alarms a (omega arith)

-- the counter of an alarm is that of the system
pub counter_same : (S : System) (t : AlarmTable) (a : ℕ) → IsTableOf S t → a < length S.alarms → counter_in t a ≡ counter_of S a
counter_same S t a table low = ap (λ (cs : List Counter). get_or cs a no_counter) table.counters ∙ counter_declared S S.alarms a low

pub count_same : (S : System) (t : AlarmTable) (a : ℕ) → IsTableOf S t → a < length S.alarms → count_in t a ≡ count S (state_of S t) a
count_same S t a table low = ap (λ (c : Counter). t.tick / c.ticks_per_base) (counter_same S t a table low)

pub counter_there : (tick : ℕ) (ks : List CounterAlarms) (numbers : List ℕ) (a : ℕ) → a < length numbers
    → counter_in (table_of tick ks numbers) a ≡ (counter_with ks numbers a).counter
counter_there tick ks numbers a low = counter_within ks numbers a low

pub count_there : (tick : ℕ) (ks : List CounterAlarms) (numbers : List ℕ) (a : ℕ) → a < length numbers
    → count_in (table_of tick ks numbers) a ≡ count_of tick (counter_with ks numbers a)
count_there tick ks numbers a low = ap (λ (c : Counter). tick / c.ticks_per_base) (counter_within ks numbers a low)

-- an alarm of the table has a counter
pub known_there : (tick : ℕ) (ks : List CounterAlarms) (numbers : List ℕ) (t : AlarmTable) (a : ℕ) → table_of tick ks numbers ≡ t
    → a < length t.expiries → a < length numbers
known_there tick ks numbers t a is low =
    let same = ap (λ (u : AlarmTable). length u.expiries) is in
    omega (arith, same, length-expiries tick ks numbers)

-- how many counts an alarm has left some ticks later
pub left_there : (tick n : ℕ) (ks : List CounterAlarms) (numbers : List ℕ) (a : ℕ) → a < length numbers
    → remaining_at (count_of (tick + n) (counter_with ks numbers a)) (expiry_in tick (counter_with ks numbers a) a)
    ≡ remaining_at (count_in (later n (table_of tick ks numbers)) a) (get_or (expiries_of tick ks numbers) a None)
left_there tick n ks numbers a low =
    ap₂ remaining_at (ap (λ (c : Counter). (tick + n) / c.ticks_per_base) (sym (counter_within ks numbers a low))) (sym (expiry_there tick ks numbers a low))

-- the cycle of an alarm
pub cycle_listed : (tick : ℕ) (ks : List CounterAlarms) (numbers : List ℕ) (a : ℕ) → a < length numbers
    → cycle_in (wait_of a (counter_with ks numbers a).running) ≡ cycle_of (get_or (expiries_of tick ks numbers) a None)
cycle_listed tick ks numbers a low =
    rw (expiry_there tick ks numbers a low) (cycle_of_expiry (count_of tick (counter_with ks numbers a)) (wait_of a (counter_with ks numbers a).running))
