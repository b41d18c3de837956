use Rattle.std.proofs.Common.{rules}
use Rattle.analysis_nodes.proofs.LinkLemmas.{links_step}
use Rattle.analysis_nodes.proofs.checking.all_links.Goals as goal

pub loop-number-preserved : goal.loop-number-preserved
loop-number-preserved c =
    links_step c.args.system.now c.args.nodes.now c.loop-number.number c.loop-number.all.items
    c.push.new.self.items c.in-Some.links c.index-nodes-number.result c.loop-number-test.true
    c.index-nodes-number.is (search rules) c.loop-number.invariant (search rules)
