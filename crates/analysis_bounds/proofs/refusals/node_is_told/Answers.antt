use Rattle.std.proofs.Common.{ℕ, ◌≡◌, slice_get, subst, ◌∙◌}
use Rattle.std.specs.Prelude.{Some}
use Rattle.analysis_nodes.specs.declared.graph.Way.{Way}
use Rattle.analysis_nodes.specs.Nodes.{node_by}
use Rattle.analysis_bounds.specs.Told.{WayIsTold}
use Rattle.analysis_bounds.proofs.NumberLemmas.{below_more, got}
use Rattle.analysis_bounds.proofs.refusals.node_is_told.Goals as goal

pub loop-place-preserved : goal.loop-place-preserved
loop-place-preserved c =
    let n = node_by c.args.node.now in
    below_more
    (λ k. (w : Way) → slice_get c.args.ways.now k ≡ Some w → WayIsTold c.args.peaks.now n w)
    c.loop-place.place c.loop-place.invariant
    (λ w there.
    subst (WayIsTold c.args.peaks.now n)
    (c.index-ways-place.is
    ∙ got c.args.ways.now c.loop-place.place c.index-ways-place.result w c.loop-place-test.true
    there)
    (c.way_is_told.ensures c.if-not-way_is_told.false))
