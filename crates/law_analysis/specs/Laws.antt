-- What an analysis tells bounds the figures of every run.
use Rattle.std.specs.Prelude.{ℕ, List}
use Rattle.osek_base.specs.Proper.{IsProper}
use Rattle.osek_base.specs.System.{System}
use Rattle.arrival_rules.specs.declared.rule.ArrivalRule.{ArrivalRule}
use Rattle.search_peaks.specs.Peaks.{Peaks}
use Rattle.law_bounds.specs.Bounds.{AreBounds}
use Rattle.law_nodes.specs.Nodes.{Table}
use Rattle.law_analysis.specs.Told.{AreAnalysed}

-- of each run whose interrupts keep the rules, after every number of ticks
abbrev pub AnalysesBound : Type 0
AnalysesBound =
    (S : System) (mode : ℕ) (rules : List ArrivalRule) (cap : ℕ) (table : Table) (peaks : Peaks)
    → IsProper S → AreAnalysed S mode rules cap table peaks → AreBounds S mode rules cap peaks
