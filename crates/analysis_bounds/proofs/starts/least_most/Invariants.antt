use Rattle.analysis_bounds.specs.Told.{IsSomeMost}
use Rattle.analysis_bounds.proofs.starts.least_most.Given as goal

abbrev pub invariant-loop-level : goal.invariant-loop-level
invariant-loop-level l = IsSomeMost l.system l.mosts l.routine l.least
