use Rattle.std.proofs.Common.{◌<◌, subst, sym}
use Rattle.law_windows.specs.Routines.{begun}
use Rattle.law_costs.specs.Left.{on}
use Rattle.law_analysis.specs.Lengths.{Lasts}
use Rattle.analysis_bounds.proofs.LengthLemmas.{lasts_at, stands}
use Rattle.analysis_bounds.proofs.lengths.length_at.Goals as goal

pub returns-then-begins_at : goal.returns-then-begins_at
returns-then-begins_at c =
    subst (λ k. Lasts c.args.system.now k on (begun c.args.routine)) (sym c.count_at.ensures)
    (lasts_at c.args.system.now c.args.graph.now c.args.lengths.now c.args.routine c.args.number
    c.index.result.now c.lengths_last.ensures c.requires.holds
    (stands c.args.graph.now.nodes.items c.args.number c.index.result.now
    (subst (λ k. c.args.number < k) c.node_count.ensures c.if-number-node_count.false)
    c.index.ensures)
    (c.begins_at.ensures c.if-begins_at.true))
