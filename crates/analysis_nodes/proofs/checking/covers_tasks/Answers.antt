use Rattle.std.proofs.Common.{map, rules}
use Rattle.osek_base.specs.declared.ids.Owner.{Owner}
use Rattle.law_nodes.specs.Nodes.{fresh_node, is_covered}
use Rattle.analysis_nodes.specs.Nodes.{node_by}
use Rattle.analysis_nodes.proofs.LinkLemmas.{below_more}
use Rattle.analysis_nodes.proofs.checking.covers_tasks.Goals as goal

pub loop-number-preserved : goal.loop-number-preserved
loop-number-preserved c =
    below_more (λ t. is_covered (map node_by c.args.nodes.now) (fresh_node (Owner.Task t)))
    c.loop-number.number c.loop-number.invariant (search rules)
