use Rattle.analysis_nodes.specs.Nodes.{node_by}
use Rattle.analysis_bounds.specs.Told.{NodeIsTold}
use Rattle.analysis_bounds.proofs.refusals.node_is_told.Given as goal

abbrev pub invariant-loop-place : goal.invariant-loop-place
invariant-loop-place l = NodeIsTold l.peaks (node_by l.node) l.ways l.place
