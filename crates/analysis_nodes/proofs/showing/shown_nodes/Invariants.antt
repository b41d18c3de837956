use Rattle.std.proofs.Common.{◌≡◌, map, take}
use Rattle.law_nodes.specs.Shown.{shown_node}
use Rattle.analysis_nodes.specs.Nodes.{node_by}
use Rattle.analysis_nodes.proofs.showing.shown_nodes.Given as goal

abbrev pub invariant-loop-set : goal.invariant-loop-set
invariant-loop-set l =
    map node_by l.nodes.items ≡ map (shown_node (node_by l.node)) (take l.set-index l.sets)
