use Rattle.std.proofs.Common.{ℕ, ◌≤◌, length, subst}
use Rattle.analysis_bounds.specs.Checks.{IsPaid, Pays}
use Rattle.analysis_bounds.proofs.NumberLemmas.{below_more, up_to}
use Rattle.analysis_bounds.proofs.prices.all_pay.Goals as goal

pub loop-number-preserved : goal.loop-number-preserved
loop-number-preserved c =
    below_more
    (λ k. Pays c.args.system.now c.args.graph.now c.args.level.now k
    × IsPaid c.args.system.now c.args.graph.now c.args.level.now k)
    c.loop-number.number c.loop-number.invariant (
      c.node_pays.ensures c.if-not-node_pays.false,
      c.node_is_paid.ensures c.if-not-node_is_paid.false,
    )

pub returns : goal.returns
returns c h =
    up_to
    (λ k. Pays c.args.system.now c.args.graph.now c.args.level.now k
    × IsPaid c.args.system.now c.args.graph.now c.args.level.now k)
    c.loop-number.number (length c.args.graph.now.nodes.items) c.loop-number.invariant
    (subst (λ k. k ≤ c.loop-number.number) c.node_count-number-end.ensures c.loop-number-test.false)
