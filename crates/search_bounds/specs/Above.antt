-- Partitions. Bounds of an upper part that hold in every system that has it.
use Rattle.std.specs.Prelude.{ℕ, List}
use Rattle.osek_base.specs.System.{System}
use Rattle.arrival_rules.specs.declared.rule.ArrivalRule.{ArrivalRule}
use Rattle.search_nodes.specs.declared.found.Bounds.{Bounds}
use Rattle.search_nodes.specs.Found.{Says}
use Rattle.search_peaks.specs.Peaks.{Peaks}
use Rattle.law_bounds.specs.Starting.{RoutinesStart}
use Rattle.law_upper.specs.Above.{AreOneAbove}
use Rattle.law_upper.specs.FiguresAbove.{AreBoundsAbove, AreBoundsAboveUpTo, UpperHoldsEnd, UpperJobsEnd}

-- in the system itself, and in each that is separable at p and agrees with it from p upward
pub record BoundAll (S : System) (p mode : ℕ) (rules : List ArrivalRule) (cap : ℕ)
    (peaks : Peaks) : Type 0 where
  pub whole : AreBoundsAbove S p mode rules cap peaks
  pub others : (B : System) → AreOneAbove S B p → AreBoundsAbove B p mode rules cap peaks

-- for so many ticks at most
pub record BoundAllUpTo (S : System) (p mode : ℕ) (rules : List ArrivalRule) (cap : ℕ) (peaks : Peaks)
    (count : ℕ) : Type 0 where
  pub whole : AreBoundsAboveUpTo S p mode rules cap peaks count
  pub others : (B : System) → AreOneAbove S B p
      → AreBoundsAboveUpTo B p mode rules cap peaks count

-- where the search is decided for ever, else for as many ticks as all that can come was tried in
abbrev pub HoldAbove : System → ℕ → ℕ → List ArrivalRule → Bounds → Type 0
HoldAbove S p mode rules found =
    Says found.outcome (BoundAll S p mode rules found.cap found.peaks)
    (BoundAllUpTo S p mode rules found.cap found.peaks)

-- in all of them jobs of upper tasks whose greatest response is below the cap end or begin to wait
-- within as many ticks of being ready
pub record EndAll (S : System) (p mode : ℕ) (rules : List ArrivalRule) (cap : ℕ)
    (peaks : Peaks) : Type 0 where
  pub whole : UpperJobsEnd S p mode rules cap peaks
  pub others : (B : System) → AreOneAbove S B p → UpperJobsEnd B p mode rules cap peaks

-- where the search is decided
abbrev pub JobsEndAbove : System → ℕ → ℕ → List ArrivalRule → Bounds → Type 0
JobsEndAbove S p mode rules found =
    Says found.outcome (EndAll S p mode rules found.cap found.peaks) (λ levels. Unit {0})

-- in all of them routines whose greatest latency is below the cap start within as many ticks of an
-- interrupt
pub record StartAll (S : System) (p mode : ℕ) (rules : List ArrivalRule) (cap : ℕ)
    (peaks : Peaks) : Type 0 where
  pub whole : RoutinesStart S mode rules cap peaks
  pub others : (B : System) → AreOneAbove S B p → RoutinesStart B mode rules cap peaks

-- where the search is decided
abbrev pub InterruptsStartAbove : System → ℕ → ℕ → List ArrivalRule → Bounds → Type 0
InterruptsStartAbove S p mode rules found =
    Says found.outcome (StartAll S p mode rules found.cap found.peaks) (λ levels. Unit {0})

-- in all of them jobs release upper resources, whose longest hold is below the cap, within as many
-- ticks
pub record ReleaseAll (S : System) (p mode : ℕ) (rules : List ArrivalRule) (cap : ℕ)
    (peaks : Peaks) : Type 0 where
  pub whole : UpperHoldsEnd S p mode rules cap peaks
  pub others : (B : System) → AreOneAbove S B p → UpperHoldsEnd B p mode rules cap peaks

abbrev pub HoldsEndAbove : System → ℕ → ℕ → List ArrivalRule → Bounds → Type 0
HoldsEndAbove S p mode rules found =
    Says found.outcome (ReleaseAll S p mode rules found.cap found.peaks) (λ levels. Unit {0})
