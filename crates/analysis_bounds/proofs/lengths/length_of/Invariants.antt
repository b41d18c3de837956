use Rattle.law_windows.specs.Routines.{begun}
use Rattle.law_costs.specs.Left.{on}
use Rattle.law_analysis.specs.Lengths.{Lasts}
use Rattle.analysis_bounds.proofs.lengths.length_of.Given as goal

abbrev pub invariant-loop-number : goal.invariant-loop-number
invariant-loop-number l = Lasts l.system l.longest on (begun l.routine)
