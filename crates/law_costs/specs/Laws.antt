-- Costs that pay for all that comes and for each instruction, and what they bound.
use Rattle.std.specs.Prelude.{ℕ, ◌≡◌, false, List}
use Rattle.osek_base.specs.declared.arrivals.Arrival.{Arrival}
use Rattle.osek_base.specs.Proper.{IsProper}
use Rattle.osek_base.specs.System.{System}
use Rattle.osek_base.specs.Trace.{run}
use Rattle.arrival_rules.specs.declared.rule.ArrivalRule.{ArrivalRule}
use Rattle.law_windows.specs.Phases.{FallsByPhases}
use Rattle.law_windows.specs.Analysis.{AreAlwaysEnough, IsBoundOf}
use Rattle.law_windows.specs.Expiring.{most_expiries}
use Rattle.law_costs.specs.Left.{Weights, left}
use Rattle.law_costs.specs.Known.{IsKnownAt, Known, StaysKnown, at_instruction}
use Rattle.law_costs.specs.Paying.{CostSomething, PayForBoot, PayForComing, PayForDispatch, PayForStarts}
use Rattle.law_costs.specs.Routines.{PayForRoutines}
use Rattle.law_costs.specs.Jobs.{PayForJobs}
use Rattle.law_costs.specs.Setting.{AreKnownNoSooner, AreKnownOnce}

-- costs pay for all that comes, and for the instructions of known jobs and routines; and alarms
-- that pay are set once
pub record Pay (S : System) (mode p : ℕ) (c : Weights) (known : Known) : Type 0 where
  pub something : CostSomething S p c known
  pub dispatch : PayForDispatch S p c
  pub starts : PayForStarts S p c known
  pub coming : PayForComing S p c
  pub boot : PayForBoot S mode p c
  pub routines : PayForRoutines S p c known
  pub jobs : PayForJobs S p c known
  pub once : AreKnownOnce S mode c known

-- ---- the laws

-- where what is known stays known, who executes in each run is known
abbrev pub RunsAreKnown : Type 0
RunsAreKnown =
    (S : System) (mode : ℕ) (arrivals : List Arrival) (known : Known) → IsProper S
    → StaysKnown S known → (n : ℕ) → (run S mode arrivals n).state.over ≡ false
    → IsKnownAt S mode arrivals known n

-- and where costs pay, what is left falls phase by phase
abbrev pub CostsFallByPhases : Type 0
CostsFallByPhases =
    (S : System) (mode : ℕ) (arrivals : List Arrival) (p : ℕ) (c : Weights) (known : Known)
    → IsProper S → StaysKnown S known → Pay S mode p c known
    → FallsByPhases S mode arrivals p c.costs
    (λ n. left S p c (run S mode arrivals n).state)
    (λ n. left S p c (at_instruction S mode arrivals n))

-- so where who is known sets alarms no sooner than is said, as many ticks as are enough for all
-- that can come are a bound of each window, and of each response
abbrev pub CostsBoundResponses : Type 0
CostsBoundResponses =
    (S : System) (mode : ℕ) (rules : List ArrivalRule) (p : ℕ) (c : Weights) (known : Known)
    (least : ℕ → ℕ) (most : ℕ) → IsProper S → StaysKnown S known → Pay S mode p c known
    → AreKnownNoSooner S mode c.costs known least
    → AreAlwaysEnough S rules c.costs (most_expiries S mode least most) most
    → IsBoundOf S mode rules p most
