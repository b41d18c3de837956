use Rattle.std.proofs.Common.{◌≡◌, subst, sym}
use Rattle.std.specs.Prelude.{IfSome}
use Rattle.osek_base.specs.declared.task.Action.{Action}
use Rattle.osek_base.specs.Tick.{action_call}
use Rattle.law_costs.specs.Paying.{start_of}
use Rattle.analysis_bounds.specs.Levels.{weights_of}
use Rattle.analysis_bounds.proofs.prices.cost_of_action.Goals as goal

pub returns-in-SetEvent : goal.returns-in-SetEvent
returns-in-SetEvent c =
    let costs = weights_of c.args.level.now in
    subst
    (λ (action : Action). IfSome c.cost_of_set.result
    (λ cost. cost ≡ start_of costs (action_call action)))
    (sym c.in-SetEvent.is)
    (subst (λ t. IfSome c.cost_of_set.result (λ cost. cost ≡ costs.of_event t c.in-SetEvent.mask))
    c.number-in-SetEvent.ensures.is c.cost_of_set.ensures)
