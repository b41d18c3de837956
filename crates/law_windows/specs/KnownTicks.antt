-- OSEK/VDX OS: alarms, counters and alarm management. An alarm that only boot starts expires in
-- known ticks, so of these a window has those alone that lie in it; and the bounds of an analysis
-- by that.
use Rattle.std.specs.Prelude.{ℕ, ◌+◌, ◌-◌, ◌*◌, ◌%◌, ◌≡◌, ◌<◌, ◌≤◌, Bool, true, ◌&&◌, ◌||◌, ◌==◌, nat_le, if◌then◌else◌, List, length, Option, Some, None}
use Rattle.osek_base.specs.declared.arrivals.Arrival.{Arrival}
use Rattle.osek_base.specs.Proper.{IsProper}
use Rattle.osek_base.specs.System.{System, alarm_start_in}
use Rattle.arrival_rules.specs.declared.rule.ArrivalRule.{ArrivalRule}
use Rattle.arrival_rules.specs.Rules.{KeepRules}
use Rattle.law_alarms.specs.Expiries.{base_of}
use Rattle.law_alarms.specs.Setting.{is_never_set}
use Rattle.law_alarms.specs.Spaced.{most_in}
use Rattle.law_windows.specs.Analysis.{ArePeriodic, IsBoundOf, most_of}
use Rattle.law_windows.specs.Coming.{Costs, cost_of, first_cost}
use Rattle.law_windows.specs.Expiring.{IsCountedButForAlarms}

-- ---- known ticks

-- how many of the ticks (time + k * cycle) * base lie below a tick: one at most without a cycle
abbrev pub known_before : ℕ × ℕ → ℕ → ℕ → ℕ
known_before start base t =
    if nat_le t (start.0 * base) then 0
    else if start.1 == 0 then 1
    else most_in (start.1 * base) (t - start.0 * base)

-- how many lie in so many ticks, from one on: none where the alarm doesn't start
abbrev pub known_in : Option (ℕ × ℕ) → ℕ → ℕ → ℕ → ℕ
known_in None base from count = 0
known_in (Some start) base from count =
    known_before start base (from + count) - known_before start base from

-- how often an alarm expires at most in so many ticks, from one on: in the known ones that lie
-- there; or, where programs set it, as often as so many counts find room
abbrev pub expiries_from : System → ℕ → (ℕ → ℕ) → ℕ → ℕ → ℕ → ℕ
expiries_from S mode least from count a =
    if is_never_set S a then known_in (alarm_start_in S mode a) (base_of S a) from count
    else most_in (least a * base_of S a) count

-- ---- what is enough

-- so many ticks are enough for a window that begins in that tick: for what may be left where it
-- begins, and for all that can come in them
abbrev pub AreEnoughFrom : System → ℕ → List ArrivalRule → Costs → (ℕ → ℕ) → ℕ → ℕ → Type 0
AreEnoughFrom S mode rules costs least most from =
    first_cost costs from
    + cost_of S costs (λ i. most_of rules i most) (expiries_from S mode least from most)
    ≤ most

-- .. that begins in any tick before one
pub record AreEnoughAt (S : System) (mode : ℕ) (rules : List ArrivalRule) (costs : Costs)
    (least : ℕ → ℕ) (most horizon : ℕ) : Type 0 where
  pub periodic : ArePeriodic rules
  pub some : 1 ≤ most
  pub enough : (from : ℕ) → from < horizon → AreEnoughFrom S mode rules costs least most from

-- ---- when known ticks come again

-- whether from a first tick on no more lie in as many ticks a round later: the first known tick
-- isn't behind it, and a round is whole cycles, where there is one
abbrev pub come_again : Option (ℕ × ℕ) → ℕ → ℕ → ℕ → Bool
come_again None base first round = true
come_again (Some start) base first round =
    nat_le (start.0 * base) first
    && (start.1 == 0 || round % (start.1 * base) == 0)

-- those of each alarm that only boot starts, and whose expiry costs something, come again after a
-- round; from tick 1 on, as a window that begins with the run has costs of its own
pub record IsRound (S : System) (mode : ℕ) (costs : Costs) (first round : ℕ) : Type 0 where
  pub later : 1 ≤ first
  pub some : 1 ≤ round
  pub again : (a : ℕ) → a < length S.alarms → 1 ≤ costs.of_expiry a → is_never_set S a ≡ true
      → come_again (alarm_start_in S mode a) (base_of S a) first round ≡ true

-- ---- window by window

-- a window that begins in that tick has so many ticks at most: as many as are enough for it, or
-- fewer are
pub record IsShortFrom (S : System) (mode : ℕ) (rules : List ArrivalRule) (costs : Costs)
    (least : ℕ → ℕ) (most from : ℕ) : Type 0 where
  pub count : ℕ
  pub some : 1 ≤ count
  pub low : count ≤ most
  pub enough : AreEnoughFrom S mode rules costs least count from

-- .. that begins with the run, in one tick, or before another in a known tick of an alarm that only
-- boot starts and whose expiry costs something
pub record AreShortAtExpiries (S : System) (mode : ℕ) (rules : List ArrivalRule) (costs : Costs)
    (least : ℕ → ℕ) (most first horizon : ℕ) : Type 0 where
  pub periodic : ArePeriodic rules
  pub at_boot : IsShortFrom S mode rules costs least most 0
  pub at_first : IsShortFrom S mode rules costs least most first
  pub at_known : (a k : ℕ) (start : ℕ × ℕ) → a < length S.alarms → 1 ≤ costs.of_expiry a
      → is_never_set S a ≡ true → alarm_start_in S mode a ≡ Some start
      → (start.0 + k * start.1) * base_of S a < horizon
      → IsShortFrom S mode rules costs least most ((start.0 + k * start.1) * base_of S a)

-- ---- the laws

-- costs, rules of interrupts, known ticks of alarms and gaps between other expiries are all that
-- ticks are enough for, where windows are looked at that begin before the end of the first round
abbrev pub KnownTicksBoundResponses : Type 0
KnownTicksBoundResponses =
    (S : System) (mode : ℕ) (rules : List ArrivalRule) (p : ℕ) (costs : Costs) (least : ℕ → ℕ)
    (most first round : ℕ) → IsProper S → IsRound S mode costs first round
    → AreEnoughAt S mode rules costs least most (first + round)
    → ((arrivals : List Arrival) → KeepRules S rules arrivals
    → IsCountedButForAlarms S mode arrivals p costs least)
    → IsBoundOf S mode rules p most

-- each window by itself: and it's enough to look at those that begin with the run, with the round,
-- or in a known tick before its end. One that begins in no such tick has no more known ticks than
-- one that begins a tick later
abbrev pub ExpiriesBoundResponses : Type 0
ExpiriesBoundResponses =
    (S : System) (mode : ℕ) (rules : List ArrivalRule) (p : ℕ) (costs : Costs) (least : ℕ → ℕ)
    (most first round : ℕ) → IsProper S → IsRound S mode costs first round
    → AreShortAtExpiries S mode rules costs least most first (first + round)
    → ((arrivals : List Arrival) → KeepRules S rules arrivals
    → IsCountedButForAlarms S mode arrivals p costs least)
    → IsBoundOf S mode rules p most
