use Rattle.std.proofs.Common.{◌≤◌, length, subst}
use Rattle.analysis_bounds.specs.Told.{IsToldAt}
use Rattle.analysis_bounds.proofs.NumberLemmas.{below_more, up_to}
use Rattle.analysis_bounds.proofs.refusals.nodes_are_told.Goals as goal

pub loop-number-preserved : goal.loop-number-preserved
loop-number-preserved c =
    below_more (IsToldAt c.args.graph.now c.args.peaks.now) c.loop-number.number
    c.loop-number.invariant (c.is_told_at.ensures c.if-not-is_told_at.false)

pub returns : goal.returns
returns c h =
    up_to (IsToldAt c.args.graph.now c.args.peaks.now) c.loop-number.number
    (length c.args.graph.now.nodes.items) c.loop-number.invariant
    (subst (λ k. k ≤ c.loop-number.number) c.node_count-number-end.ensures c.loop-number-test.false)
