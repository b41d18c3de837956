use Rattle.analysis_nodes.specs.Nodes.{node_by}
use Rattle.analysis_bounds.specs.Checks.{AreFitting}
use Rattle.analysis_bounds.proofs.ways.ways_fit.Given as goal

abbrev pub invariant-loop-place : goal.invariant-loop-place
invariant-loop-place l =
    AreFitting l.system l.graph l.level (node_by l.node) l.ways l.alarms l.most l.freed l.place
