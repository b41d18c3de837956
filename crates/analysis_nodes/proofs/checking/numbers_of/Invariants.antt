use Rattle.std.proofs.Common.{map, take}
use Rattle.analysis_nodes.specs.Graph.{AreCoveredBy}
use Rattle.analysis_nodes.specs.Nodes.{node_by}
use Rattle.analysis_nodes.proofs.checking.numbers_of.Given as goal

abbrev pub invariant-loop-node : goal.invariant-loop-node
invariant-loop-node l =
    AreCoveredBy (map node_by l.nodes) l.numbers.items (map node_by (take l.node-index l.next))
