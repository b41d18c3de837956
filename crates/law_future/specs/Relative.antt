-- OSEK/VDX OS: alarms, counters and alarm management. A state with times relative to its tick, which code can compare.
use Rattle.std.specs.Prelude.{ℕ, ◌-◌, ◌≡◌, ◌<◌, ◌≤◌, ◌↔◌, Bool, true, List, map, Option, Some, None, length}
use Rattle.osek_base.specs.declared.arrivals.Arrival.{Arrival}
use Rattle.osek_base.specs.Lists.{below}
use Rattle.osek_base.specs.System.{System, counter}
use Rattle.osek_base.specs.State.{Expiry}
use Rattle.osek_base.specs.Alarm.{count, expiry}
use Rattle.osek_base.specs.Proper.{IsProper}
use Rattle.law_kept.specs.Kept.{Kept}
use Rattle.law_kept.specs.KeptService.{bare}
use Rattle.law_future.specs.Alike.{value_at, phase_at, AreAlikeBy, kept_after}

-- no alarm that is on has passed its count: it is due in this tick or later
abbrev pub IsAhead : ℕ → Option Expiry → Type 0
IsAhead n None = Unit {0}
IsAhead n (Some e) = n ≤ e.count

abbrev pub AreAhead : System → Kept → Type 0
AreAhead S o = (a : ℕ) → a < length S.alarms → IsAhead (count S (bare o) a) (expiry (bare o) a)

-- an expiry in counts from n on
abbrev pub counted_from : ℕ → Option Expiry → Option Expiry
counted_from n None = None
counted_from n (Some e) = Some (record { count = e.count - n; cycle = e.cycle })

abbrev pub left_of : System → Kept → ℕ → Option Expiry
left_of S o a = counted_from (count S (bare o) a) (expiry (bare o) a)

-- what is kept, without the tick, each alarm with the counts that it has left
abbrev pub relative : System → Kept → Kept
relative S o = record o { tick = 0; alarms = map (left_of S o) (below (length S.alarms)) }

-- all that is compared: this, each counter's phase, and its value where it is among the valued ones
pub record AreSame (S : System) (valued : ℕ → Bool) (o p : Kept) : Type 0 where
  pub kept : relative S o ≡ relative S p
  pub values : (c : ℕ) → c < length S.counters → valued c ≡ true → value_at (counter S c) o.tick ≡ value_at (counter S c) p.tick
  pub phases : (c : ℕ) → c < length S.counters → phase_at (counter S c) o.tick ≡ phase_at (counter S c) p.tick

-- ---- the laws

-- in every run no alarm has passed its count
abbrev pub AlwaysAhead : Type 0
AlwaysAhead =
    (S : System) (mode : ℕ) (arrivals : List Arrival) (n : ℕ) → IsProper S → AreAhead S (kept_after S mode arrivals n)

-- where none has, states are alike exactly where what is compared is the same
abbrev pub SameIsAlike : Type 0
SameIsAlike =
    (S : System) (valued : ℕ → Bool) (o p : Kept) → AreAhead S o → AreAhead S p
    → AreSame S valued o p ↔ AreAlikeBy S valued o p
