use Rattle.std.proofs.Common.{ℕ, ◌≡◌, ◌≤◌, false, length, slice_get, subst, ◌∙◌}
use Rattle.std.specs.Prelude.{Some}
use Rattle.analysis_nodes.specs.declared.node.Node.{Node as Kept}
use Rattle.analysis_nodes.specs.Nodes.{node_by}
use Rattle.analysis_bounds.specs.Told.{ends}
use Rattle.analysis_bounds.proofs.NumberLemmas.{up_to}
use Rattle.analysis_bounds.proofs.TellLemmas.{none_ends}
use Rattle.analysis_bounds.proofs.starts.may_end.Goals as goal

pub returns : goal.returns
returns c h =
    let nodes = c.args.graph.now.nodes.items in
    none_ends c.args.system.now c.args.graph.now
    (up_to
    (λ k. (n : Kept) → slice_get nodes k ≡ Some n → ends c.args.system.now (node_by n) ≡ false)
    c.loop-number.number (length nodes) c.loop-number.invariant
    (subst (λ k. k ≤ c.loop-number.number) c.node_count-number-end.ensures c.loop-number-test.false))
