use Rattle.std.proofs.Common.{◌≡◌, subst}
use Rattle.std.specs.Prelude.{IfSome}
use Rattle.osek_base.specs.declared.task.Action.{Action}
use Rattle.osek_base.specs.Tick.{action_call}
use Rattle.law_costs.specs.Paying.{start_of}
use Rattle.analysis_bounds.specs.Levels.{weights_of}
use Rattle.analysis_bounds.proofs.prices.cost_of_expiry.Goals as goal

pub returns : goal.returns
returns c =
    subst
    (λ (action : Action). IfSome c.cost_of_action.result
    (λ cost. cost ≡ start_of (weights_of c.args.level.now) (action_call action)))
    c.action_of-action.ensures c.cost_of_action.ensures
