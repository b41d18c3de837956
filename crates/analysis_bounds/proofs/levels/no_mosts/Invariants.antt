use Rattle.analysis_bounds.specs.Windows.{AreUnknown}
use Rattle.analysis_bounds.proofs.levels.no_mosts.Given as goal

abbrev pub invariant-loop : goal.invariant-loop
invariant-loop l = AreUnknown l.mosts.items
