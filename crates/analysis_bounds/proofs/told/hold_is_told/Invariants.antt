use Rattle.analysis_bounds.specs.Told.{HoldIsTold}
use Rattle.analysis_bounds.proofs.told.hold_is_told.Given as goal

abbrev pub invariant-loop-task : goal.invariant-loop-task
invariant-loop-task l = HoldIsTold l.system l.peaks l.resource l.task
