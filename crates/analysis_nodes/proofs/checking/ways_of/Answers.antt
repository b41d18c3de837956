use Rattle.std.proofs.Common.{map, rules}
use Rattle.analysis_nodes.specs.Nodes.{node_by}
use Rattle.analysis_nodes.proofs.LinkLemmas.{ways_step}
use Rattle.analysis_nodes.proofs.checking.ways_of.Goals as goal

pub loop-outcome-preserved : goal.loop-outcome-preserved
loop-outcome-preserved c =
    ways_step (map node_by c.args.nodes.now) c.loop-outcome.ways.items c.push.new.self.items
    c.args.outcomes.now c.loop-outcome.outcome-index c.outcome-item.result c.in-Some.way
    c.loop-outcome-test.true c.outcome-item.is (search rules) c.loop-outcome.invariant
    (search rules)
