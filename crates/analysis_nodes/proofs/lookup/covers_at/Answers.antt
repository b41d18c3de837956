use Rattle.std.proofs.Common.{◌∙◌, sym, arith}
use Rattle.analysis_nodes.specs.Nodes.{node_by}
use Rattle.analysis_nodes.proofs.LinkLemmas.{covers_at}
use Rattle.analysis_nodes.proofs.lookup.covers_at.Goals as goal

pub returns : goal.returns
returns c h =
    covers_at c.args.nodes.now c.args.at c.index-nodes-at.result (node_by c.args.node.now)
    (omega arith) c.index-nodes-at.is (sym c.covers.ensures ∙ h)
