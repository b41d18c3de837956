use Rattle.std.proofs.Common.{map, rules}
use Rattle.analysis_nodes.specs.Nodes.{node_by}
use Rattle.analysis_nodes.proofs.LinkLemmas.{numbers_step}
use Rattle.analysis_nodes.proofs.checking.numbers_of.Goals as goal

pub loop-node-preserved : goal.loop-node-preserved
loop-node-preserved c =
    numbers_step (map node_by c.args.nodes.now) c.loop-node.numbers.items c.push.new.self.items
    c.args.next.now c.loop-node.node-index c.node-item.result c.in-Some.number
    c.loop-node-test.true c.node-item.is (search rules) c.loop-node.invariant (search rules)
