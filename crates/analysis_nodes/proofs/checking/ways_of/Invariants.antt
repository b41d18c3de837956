use Rattle.std.proofs.Common.{map, take}
use Rattle.analysis_nodes.specs.Graph.{AreWays}
use Rattle.analysis_nodes.specs.Nodes.{node_by, outcome_told}
use Rattle.analysis_nodes.proofs.checking.ways_of.Given as goal

abbrev pub invariant-loop-outcome : goal.invariant-loop-outcome
invariant-loop-outcome l =
    AreWays (map node_by l.nodes) l.ways.items
    (map outcome_told (take l.outcome-index l.outcomes))
