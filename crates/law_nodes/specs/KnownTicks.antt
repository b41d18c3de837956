-- Prices that pay, and what they bound where known expiries are counted window by window.
use Rattle.std.specs.Prelude.{ℕ, ◌+◌, ◌≡◌, true, List}
use Rattle.osek_base.specs.Proper.{IsProper}
use Rattle.osek_base.specs.System.{System}
use Rattle.arrival_rules.specs.declared.rule.ArrivalRule.{ArrivalRule}
use Rattle.law_windows.specs.Analysis.{IsBoundOf}
use Rattle.law_windows.specs.KnownTicks.{AreEnoughAt, AreShortAtExpiries, IsRound}
use Rattle.law_costs.specs.Left.{Weights}
use Rattle.law_nodes.specs.Closed.{is_closed}
use Rattle.law_nodes.specs.Paid.{EventCosts, prices_pay}
use Rattle.law_nodes.specs.Prices.{Priced, table_of}
use Rattle.law_nodes.specs.Setting.{are_set_slowly}

-- ---- the laws

-- where a table is closed and its prices pay, as many ticks as are enough for each window that
-- begins before the end of the first round of known ticks bound each response; alarms are set by so
-- many counts at least
abbrev pub PricesBoundAtKnownTicks : Type 0
PricesBoundAtKnownTicks =
    (S : System) (mode : ℕ) (rules : List ArrivalRule) (p : ℕ) (c : Weights) (e : EventCosts)
    (prices : List Priced) (least : ℕ → ℕ) (most first round : ℕ) → IsProper S
    → is_closed S (table_of prices) ≡ true → prices_pay S mode p c e prices ≡ true
    → are_set_slowly S mode c.costs (table_of prices) least ≡ true
    → IsRound S mode c.costs first round
    → AreEnoughAt S mode rules c.costs least most (first + round)
    → IsBoundOf S mode rules p most

-- and each such window by itself, where those are looked at that begin with the run, with the
-- round, or in a known tick
abbrev pub PricesBoundAtExpiries : Type 0
PricesBoundAtExpiries =
    (S : System) (mode : ℕ) (rules : List ArrivalRule) (p : ℕ) (c : Weights) (e : EventCosts)
    (prices : List Priced) (least : ℕ → ℕ) (most first round : ℕ) → IsProper S
    → is_closed S (table_of prices) ≡ true → prices_pay S mode p c e prices ≡ true
    → are_set_slowly S mode c.costs (table_of prices) least ≡ true
    → IsRound S mode c.costs first round
    → AreShortAtExpiries S mode rules c.costs least most first (first + round)
    → IsBoundOf S mode rules p most
