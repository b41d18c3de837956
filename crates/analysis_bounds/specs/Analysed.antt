-- What an analysis tells.
use Rattle.std.specs.Prelude.{ℕ, List}
use Rattle.osek_base.specs.System.{System}
use Rattle.arrival_rules.specs.declared.rule.ArrivalRule.{ArrivalRule}
use Rattle.law_bounds.specs.Bounds.{AreBounds}
use Rattle.analysis_bounds.specs.declared.analysis.Analysis.{Analysis}

-- it bounds the figures of every run whose interrupts keep the rules
abbrev pub BoundsAll : System → ℕ → List ArrivalRule → Analysis → Type 0
BoundsAll S mode rules a = AreBounds S mode rules a.cap a.peaks
