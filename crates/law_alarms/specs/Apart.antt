-- OSEK/VDX OS: alarms, counters and alarm management. How often an alarm can expire: the laws.
use Rattle.std.specs.Prelude.{ℕ, ◌+◌, ◌*◌, ◌≡◌, ◌<◌, ◌≤◌, true, false, List, Some, None}
use Rattle.osek_base.specs.declared.arrivals.Arrival.{Arrival}
use Rattle.osek_base.specs.Proper.{IsProper}
use Rattle.osek_base.specs.System.{System, alarm_start_in}
use Rattle.law_alarms.specs.Spaced.{IsSpaced, most_in}
use Rattle.law_alarms.specs.Expiries.{base_of, expires, expiries}
use Rattle.law_alarms.specs.Setting.{AreNoSooner, is_never_set}

-- up to a tick any two expiries lie a gap apart, or more; so in some ticks in a row there are no
-- more than find room
pub record AreApart (S : System) (mode : ℕ) (arrivals : List Arrival) (a gap last : ℕ)
    : Type 0 where
  pub spaced : IsSpaced (expires S mode arrivals a) gap last
  pub few : (from count : ℕ) → 0 < gap → 0 < count → from + count ≤ last + 1
      → expiries S mode arrivals a from count ≤ most_in gap count

-- any alarm: whatever programs do, a count apart
abbrev pub AlwaysApart : Type 0
AlwaysApart =
    (S : System) (mode : ℕ) (arrivals : List Arrival) (a last : ℕ) → IsProper S
    → AreApart S mode arrivals a (base_of S a) last

-- where boot and programs set it no sooner than so many counts, so many counts apart
abbrev pub ApartAsSet : Type 0
ApartAsSet =
    (S : System) (mode : ℕ) (arrivals : List Arrival) (a least last : ℕ) → IsProper S
    → AreNoSooner S mode arrivals a least last
    → AreApart S mode arrivals a (least * base_of S a) last

-- ---- an alarm that programs leave to boot

-- boot sets it to a time and a cycle: its expiries lie a cycle apart; without a cycle it expires
-- once at most; and it expires only as a count begins that is whole cycles behind its time
pub record IsOfBoot (S : System) (mode : ℕ) (arrivals : List Arrival) (a time cycle : ℕ)
    : Type 0 where
  pub apart : (last : ℕ) → AreApart S mode arrivals a (cycle * base_of S a) last
  pub once : cycle ≡ 0 → (from count : ℕ) → expiries S mode arrivals a from count ≤ 1
  pub known : (n : ℕ) → expires S mode arrivals a n ≡ true
      → (k : ℕ) × (n ≡ (time + k * cycle) * base_of S a)

abbrev pub SetAtBootOnly : Type 0
SetAtBootOnly =
    (S : System) (mode : ℕ) (arrivals : List Arrival) (a time cycle : ℕ) → IsProper S
    → is_never_set S a ≡ true
    → alarm_start_in S mode a ≡ Some (time, cycle) → IsOfBoot S mode arrivals a time cycle

-- one that doesn't start never expires
abbrev pub NeverStarted : Type 0
NeverStarted =
    (S : System) (mode : ℕ) (arrivals : List Arrival) (a n : ℕ) → IsProper S
    → is_never_set S a ≡ true
    → alarm_start_in S mode a ≡ None → expires S mode arrivals a n ≡ false
