use Rattle.analysis_bounds.specs.Told.{NodesAreTold}
use Rattle.analysis_bounds.proofs.refusals.nodes_are_told.Given as goal

abbrev pub invariant-loop-number : goal.invariant-loop-number
invariant-loop-number l = NodesAreTold l.graph l.peaks l.number
