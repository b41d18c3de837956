use Rattle.std.proofs.Common.{ap, ◌∙◌, sym}
use Rattle.osek_base.specs.declared.ids.Owner.{Owner}
use Rattle.analysis_nodes.specs.Nodes.{node_by}
use Rattle.analysis_bounds.proofs.LengthLemmas.{begun_at}
use Rattle.analysis_bounds.proofs.lengths.begins_at.Goals as goal

pub returns-then-number-routine : goal.returns-then-number-routine
returns-then-number-routine c h =
    begun_at (node_by c.args.node.now) c.args.routine
    (c.in-Routine.is ∙ ap Owner.Routine (sym c.number.ensures.is ∙ c.if-number-routine.true))
    (c.is_fresh.ensures h)
