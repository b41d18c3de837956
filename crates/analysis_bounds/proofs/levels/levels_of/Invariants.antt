use Rattle.analysis_bounds.specs.declared.levels.TheConstants.{CAP}
use Rattle.analysis_bounds.specs.Windows.{AreMosts}
use Rattle.analysis_bounds.proofs.levels.levels_of.Given as goal

abbrev pub invariant-loop-down : goal.invariant-loop-down
invariant-loop-down l = AreMosts l.system l.mode l.rules CAP l.mosts.items
