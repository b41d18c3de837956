use Rattle.analysis_bounds.specs.Told.{HoldsAreTold}
use Rattle.analysis_bounds.proofs.told.holds_are_told.Given as goal

abbrev pub invariant-loop-resource : goal.invariant-loop-resource
invariant-loop-resource l = HoldsAreTold l.system l.peaks l.resource
