use Rattle.std.proofs.Common.{ℕ, ◌≡◌, length, slice_get, subst, ◌∙◌}
use Rattle.std.specs.Prelude.{Some}
use Rattle.analysis_nodes.specs.declared.graph.Way.{Way}
use Rattle.analysis_nodes.specs.Nodes.{node_by}
use Rattle.analysis_bounds.specs.Checks.{Fits}
use Rattle.analysis_bounds.proofs.NumberLemmas.{below_more, got, up_to}
use Rattle.analysis_bounds.proofs.ways.ways_fit.Goals as goal

pub loop-place-preserved : goal.loop-place-preserved
loop-place-preserved c =
    let S = c.args.system.now in
    let n = node_by c.args.node.now in
    below_more
    (λ k. (w : Way) → slice_get c.args.ways.now k ≡ Some w
    → Fits S c.args.graph.now c.args.level.now n w c.args.alarms.now c.args.most c.args.freed)
    c.loop-place.place c.loop-place.invariant
    (λ w there.
    subst (λ v. Fits S c.args.graph.now c.args.level.now n v c.args.alarms.now c.args.most c.args.freed)
    (c.index-ways-place.is
    ∙ got c.args.ways.now c.loop-place.place c.index-ways-place.result w c.loop-place-test.true
    there)
    (c.way_fits.ensures c.if-not-way_fits.false))

pub returns : goal.returns
returns c h =
    up_to
    (λ k. (w : Way) → slice_get c.args.ways.now k ≡ Some w
    → Fits c.args.system.now c.args.graph.now c.args.level.now (node_by c.args.node.now) w
    c.args.alarms.now c.args.most c.args.freed)
    c.loop-place.place (length c.args.ways.now) c.loop-place.invariant c.loop-place-test.false
