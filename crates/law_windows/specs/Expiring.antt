-- OSEK/VDX OS: alarms, counters and alarm management. How often alarms expire in so many ticks,
-- and the bounds of an analysis by that.
use Rattle.std.specs.Prelude.{ℕ, ◌*◌, ◌≡◌, ◌<◌, ◌≤◌, false, if◌then◌else◌, ◌==◌, List, length, Option, Some, None}
use Rattle.osek_base.specs.declared.arrivals.Arrival.{Arrival}
use Rattle.osek_base.specs.Proper.{IsProper}
use Rattle.osek_base.specs.System.{System, alarm_start_in}
use Rattle.arrival_rules.specs.declared.rule.ArrivalRule.{ArrivalRule}
use Rattle.arrival_rules.specs.Rules.{KeepRules}
use Rattle.law_alarms.specs.Expiries.{base_of}
use Rattle.law_alarms.specs.Setting.{AreNoSooner, is_never_set}
use Rattle.law_alarms.specs.Spaced.{most_in}
use Rattle.law_windows.specs.Analysis.{AreAlwaysEnough, IsBoundOf}
use Rattle.law_windows.specs.Coming.{Costs, ExpireAtMost}
use Rattle.law_windows.specs.Potential.{IsPotential}

-- ---- how often

-- in so many ticks an alarm that only boot starts, to a time and a cycle, of a counter with so many
-- ticks a count: never where it doesn't start, once without a cycle, else a cycle apart
abbrev pub most_of_boot : ℕ → ℕ → Option (ℕ × ℕ) → ℕ
most_of_boot base count None = 0
most_of_boot base count (Some start) =
    if start.1 == 0 then 1 else most_in (start.1 * base) count

-- any alarm, where programs set it, if they do, no sooner than so many counts
abbrev pub most_expiries : System → ℕ → (ℕ → ℕ) → ℕ → ℕ → ℕ
most_expiries S mode least count a =
    if is_never_set S a then most_of_boot (base_of S a) count (alarm_start_in S mode a)
    else most_in (least a * base_of S a) count

-- what is known of how soon an alarm is set: by a count, which is always so, or by more, where boot
-- and programs do in that run
pub record IsSetNoSooner (S : System) (mode : ℕ) (arrivals : List Arrival) (a least : ℕ)
    : Type 0 where
  pub some : 1 ≤ least
  pub more : 1 < least → (last : ℕ) → AreNoSooner S mode arrivals a least last

-- .. of each that programs set and whose expiry costs something
abbrev pub AreSetNoSooner : System → ℕ → List Arrival → Costs → (ℕ → ℕ) → Type 0
AreSetNoSooner S mode arrivals costs least =
    (a : ℕ) → a < length S.alarms → 1 ≤ costs.of_expiry a → is_never_set S a ≡ false
    → IsSetNoSooner S mode arrivals a (least a)

abbrev pub ExpiriesAreFew : Type 0
ExpiriesAreFew =
    (S : System) (mode : ℕ) (arrivals : List Arrival) (costs : Costs) (least : ℕ → ℕ) (count : ℕ)
    → IsProper S → AreSetNoSooner S mode arrivals costs least
    → ExpireAtMost S mode arrivals costs (most_expiries S mode least count) count

-- ---- the analysis

-- what isn't proved of a run: some potential, and how soon programs set alarms
pub record IsCountedButForAlarms (S : System) (mode : ℕ) (arrivals : List Arrival) (p : ℕ)
    (costs : Costs) (least : ℕ → ℕ) : Type 0 where
  pub left : ℕ → ℕ
  pub potential : IsPotential S mode arrivals p costs left
  pub sooner : AreSetNoSooner S mode arrivals costs least

-- the law: costs, rules of interrupts and gaps between expiries are all that ticks are enough
-- for
abbrev pub GapsBoundResponses : Type 0
GapsBoundResponses =
    (S : System) (mode : ℕ) (rules : List ArrivalRule) (p : ℕ) (costs : Costs) (least : ℕ → ℕ)
    (most : ℕ) → IsProper S
    → AreAlwaysEnough S rules costs (most_expiries S mode least most) most
    → ((arrivals : List Arrival) → KeepRules S rules arrivals
    → IsCountedButForAlarms S mode arrivals p costs least)
    → IsBoundOf S mode rules p most
