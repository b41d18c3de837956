-- Costs that pay, and what they bound where known expiries are counted window by window.
use Rattle.std.specs.Prelude.{ℕ, ◌+◌, List}
use Rattle.osek_base.specs.Proper.{IsProper}
use Rattle.osek_base.specs.System.{System}
use Rattle.arrival_rules.specs.declared.rule.ArrivalRule.{ArrivalRule}
use Rattle.law_windows.specs.Analysis.{IsBoundOf}
use Rattle.law_windows.specs.KnownTicks.{AreEnoughAt, AreShortAtExpiries, IsRound}
use Rattle.law_costs.specs.Left.{Weights}
use Rattle.law_costs.specs.Known.{Known, StaysKnown}
use Rattle.law_costs.specs.Laws.{Pay}
use Rattle.law_costs.specs.Setting.{AreKnownNoSooner}

-- ---- the laws

-- where costs pay and who is known sets alarms no sooner than is said, as many ticks as are enough
-- for each window that begins before the end of the first round of known ticks bound each window,
-- and each response
abbrev pub CostsBoundAtKnownTicks : Type 0
CostsBoundAtKnownTicks =
    (S : System) (mode : ℕ) (rules : List ArrivalRule) (p : ℕ) (c : Weights) (known : Known)
    (least : ℕ → ℕ) (most first round : ℕ) → IsProper S → StaysKnown S known
    → Pay S mode p c known → AreKnownNoSooner S mode c.costs known least
    → IsRound S mode c.costs first round
    → AreEnoughAt S mode rules c.costs least most (first + round)
    → IsBoundOf S mode rules p most

-- and each such window by itself, where those are looked at that begin with the run, with the
-- round, or in a known tick
abbrev pub CostsBoundAtExpiries : Type 0
CostsBoundAtExpiries =
    (S : System) (mode : ℕ) (rules : List ArrivalRule) (p : ℕ) (c : Weights) (known : Known)
    (least : ℕ → ℕ) (most first round : ℕ) → IsProper S → StaysKnown S known
    → Pay S mode p c known → AreKnownNoSooner S mode c.costs known least
    → IsRound S mode c.costs first round
    → AreShortAtExpiries S mode rules c.costs least most first (first + round)
    → IsBoundOf S mode rules p most
