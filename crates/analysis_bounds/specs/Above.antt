-- Partitions. What an analysis of an upper part tells, and that it holds in every system that has
-- the part.
use Rattle.std.specs.Prelude.{ℕ, List}
use Rattle.osek_base.specs.System.{System}
use Rattle.arrival_rules.specs.declared.rule.ArrivalRule.{ArrivalRule}
use Rattle.law_bounds.specs.Starting.{RoutinesStart}
use Rattle.law_upper.specs.Above.{AreOneAbove}
use Rattle.law_upper.specs.FiguresAbove.{AreBoundsAbove, UpperHoldsEnd, UpperJobsEnd}
use Rattle.analysis_bounds.specs.declared.analysis.Analysis.{Analysis}

-- something holds in the system itself, and in each that is separable at p and agrees with it from
-- p upward
pub record HoldsInAll (S : System) (p : ℕ) (Holds : System → Type 0) : Type 0 where
  pub whole : Holds S
  pub others : (B : System) → AreOneAbove S B p → Holds B

-- what is told of the part bounds the figures of the part in all of them
abbrev pub BoundsAllAbove : System → ℕ → ℕ → List ArrivalRule → Analysis → Type 0
BoundsAllAbove S p mode rules a =
    HoldsInAll S p (λ B. AreBoundsAbove B p mode rules a.cap a.peaks)

-- jobs of upper tasks whose greatest response is below the cap end or begin to wait within as many
-- ticks of being ready
abbrev pub JobsEndAbove : System → ℕ → ℕ → List ArrivalRule → Analysis → Type 0
JobsEndAbove S p mode rules a =
    HoldsInAll S p (λ B. UpperJobsEnd B p mode rules a.cap a.peaks)

-- routines whose greatest latency is below the cap start within as many ticks of an interrupt
abbrev pub InterruptsStartAbove : System → ℕ → ℕ → List ArrivalRule → Analysis → Type 0
InterruptsStartAbove S p mode rules a =
    HoldsInAll S p (λ B. RoutinesStart B mode rules a.cap a.peaks)

-- and jobs release upper resources, whose longest hold is below the cap, within as many ticks
abbrev pub HoldsEndAbove : System → ℕ → ℕ → List ArrivalRule → Analysis → Type 0
HoldsEndAbove S p mode rules a =
    HoldsInAll S p (λ B. UpperHoldsEnd B p mode rules a.cap a.peaks)
