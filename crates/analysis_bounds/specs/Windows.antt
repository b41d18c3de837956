-- Bounds of windows, level by level.
use Rattle.std.specs.Prelude.{ℕ, ◌<◌, ◌≡◌, List, length}
use Rattle.osek_base.specs.System.{System}
use Rattle.arrival_rules.specs.declared.rule.ArrivalRule.{ArrivalRule}
use Rattle.law_windows.specs.Analysis.{IsBoundOf}
use Rattle.analysis_bounds.specs.declared.levels.TheConstants.{CAP}
use Rattle.analysis_bounds.specs.declared.window.Window.{Window}
use Rattle.analysis_bounds.specs.Levels.{numbered}

-- where a window is bounded, it is a bound of the level of that priority
abbrev pub IsWindowOf : System → ℕ → List ArrivalRule → ℕ → Window → Type 0
IsWindowOf S mode rules p (Window.Bounded level most from) = IsBoundOf S mode rules p most
IsWindowOf S mode rules p (Window.Unbounded why) = Unit {0}

-- by priority: a bound of the level, where it is below the cap
abbrev pub AreMosts : System → ℕ → List ArrivalRule → ℕ → List ℕ → Type 0
AreMosts S mode rules cap mosts =
    (p : ℕ) → p < length mosts → numbered mosts p < cap
    → IsBoundOf S mode rules p (numbered mosts p)

-- what is noted of a window: its bound, or the cap
abbrev pub MostOf : Window → ℕ → Type 0
MostOf (Window.Bounded level most from) noted = noted ≡ most
MostOf (Window.Unbounded why) noted = noted ≡ CAP

-- none is known
abbrev pub AreUnknown : List ℕ → Type 0
AreUnknown mosts = (p : ℕ) → p < length mosts → numbered mosts p ≡ CAP
