use Rattle.std.proofs.Common.{subst, ◌∙◌, ap}
use Rattle.analysis_nodes.specs.Nodes.{node_by}
use Rattle.analysis_bounds.specs.Checks.{BeginsWithEnough, IsEnough}
use Rattle.analysis_bounds.specs.Levels.{numbered}
use Rattle.analysis_bounds.proofs.NodeLemmas.{node_paid}
use Rattle.analysis_bounds.proofs.ways.node_pays.Goals as goal

pub returns : goal.returns
returns c h n price there paid =
    let S = c.args.system.now in
    let g = c.args.graph.now in
    let level = c.args.level.now in
    let m = c.index-node.result.now in
    node_paid S g level c.args.number n m c.index-links.result.now price c.number_at-price.result
    c.requires.graph c.requires.all c.index-node.ensures c.index-links.ensures there paid
    (c.number_at-price.ensures ∙ ap (λ list. numbered list c.args.number) c.deref.ensures.value)
    c.outcomes_are_all.ensures
    (subst (λ ways. IsEnough S g level (node_by m) ways c.number_at-price.result)
    c.deref-2.ensures.value (c.is_enough.ensures c.if-not-is_enough.false))
    (subst (BeginsWithEnough S g level (node_by m)) c.deref-3.ensures.value
    (c.begins_with_enough.ensures h))
