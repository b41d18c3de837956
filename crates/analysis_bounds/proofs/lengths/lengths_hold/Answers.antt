use Rattle.std.proofs.Common.{◌≤◌, length, subst, ◌∙◌}
use Rattle.analysis_bounds.specs.Lengths.{NodeIsLong}
use Rattle.analysis_bounds.proofs.LengthLemmas.{hold_by_numbers}
use Rattle.analysis_bounds.proofs.NumberLemmas.{up_to}
use Rattle.analysis_bounds.proofs.lengths.lengths_hold.Goals as goal

pub returns : goal.returns
returns c h =
    let g = c.args.graph.now in
    let lengths = c.args.lengths.now in
    hold_by_numbers c.args.system.now g lengths c.outcomes_are_all.ensures c.requires.graph
    (c.if-lengths-node_count.false ∙ c.node_count.ensures)
    (up_to (NodeIsLong g lengths) c.loop-number.number (length g.nodes.items)
    c.loop-number.invariant
    (subst (λ k. k ≤ c.loop-number.number) c.node_count-number-end.ensures c.loop-number-test.false))
