-- Partitions. Interrupts whose routines start, in every system with the upper part.
use Rattle.std.specs.Prelude.{ℕ, List}
use Rattle.osek_base.specs.Proper.{IsProper}
use Rattle.osek_base.specs.System.{System}
use Rattle.arrival_rules.specs.declared.rule.ArrivalRule.{ArrivalRule}
use Rattle.search_peaks.specs.Peaks.{Peaks}
use Rattle.law_bounds.specs.Starting.{RoutinesStart}
use Rattle.law_upper.specs.FiguresAbove.{AreBoundsAbove}

-- routines are above every cut, so bounds of an upper part bound all of them
abbrev pub BoundedInterruptsStartAbove : Type 0
BoundedInterruptsStartAbove =
    (S : System) (p mode : ℕ) (rules : List ArrivalRule) (cap : ℕ) (peaks : Peaks) → IsProper S
    → AreBoundsAbove S p mode rules cap peaks → RoutinesStart S mode rules cap peaks
