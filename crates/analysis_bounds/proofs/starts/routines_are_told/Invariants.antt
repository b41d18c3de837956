use Rattle.analysis_bounds.specs.Told.{RoutinesAreTold}
use Rattle.analysis_bounds.proofs.starts.routines_are_told.Given as goal

abbrev pub invariant-loop-routine : goal.invariant-loop-routine
invariant-loop-routine l = RoutinesAreTold l.system l.rules l.peaks l.mosts l.ends l.counts l.routine
