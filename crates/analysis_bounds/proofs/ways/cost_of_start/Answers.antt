use Rattle.std.proofs.Common.{◌≡◌, subst, sym}
use Rattle.std.specs.Prelude.{IfSome}
use Rattle.analysis_nodes.specs.Outcomes.{cost_of_start}
use Rattle.analysis_nodes.specs.declared.outcome.Start.{Start}
use Rattle.analysis_bounds.specs.Levels.{weights_of}
use Rattle.analysis_bounds.proofs.ways.cost_of_start.Goals as goal

pub returns-in-Sets : goal.returns-in-Sets
returns-in-Sets c =
    let costs = weights_of c.args.level.now in
    subst (λ (start : Start). IfSome c.cost_of_set.result (λ cost. cost ≡ cost_of_start costs start))
    (sym c.in-Sets.is)
    (subst (λ t. IfSome c.cost_of_set.result (λ cost. cost ≡ costs.of_event t c.in-Sets.mask))
    c.number-in-Sets.ensures.is c.cost_of_set.ensures)
