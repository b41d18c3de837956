use Rattle.std.proofs.Common.{◌∙◌, ap, map, sym}
use Rattle.law_nodes.specs.Nodes.{Node, is_covered}
use Rattle.analysis_nodes.specs.Nodes.{node_by}
use Rattle.analysis_nodes.proofs.ClosedLemmas.{covered}
use Rattle.analysis_nodes.proofs.checking.covers_fresh.Goals as goal

pub returns : goal.returns
returns c h =
    ap (λ (n : Node). is_covered (map node_by c.args.nodes.now) n) (sym c.fresh_node-fresh.ensures)
    ∙ covered (map node_by c.args.nodes.now) c.in-Some.field-0 (node_by c.fresh_node-fresh.result)
    c.in-Some.ensures
