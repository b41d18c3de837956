use Rattle.law_costs.proofs.AtKnownTicks.{costs_bound_at_expiries, costs_bound_at_known_ticks}
use Rattle.law_costs.proofs.laws.costs_bound_at_known_ticks.Goals as goal

pub returns : goal.returns
returns c = record { together = costs_bound_at_known_ticks; one_by_one = costs_bound_at_expiries }
