use Rattle.std.proofs.Common.{◌∙◌, ap}
use Rattle.analysis_nodes.specs.declared.node.Node.{Node as Kept}
use Rattle.analysis_bounds.proofs.NodeLemmas.{got_there}
use Rattle.analysis_bounds.proofs.beginning.used_at.Goals as goal

pub returns : goal.returns
returns c n there =
    ap (λ (k : Kept). k.used)
    (c.index-node.ensures
    ∙ got_there c.args.graph.now.nodes.items c.args.number c.index-node.result.now n there)
