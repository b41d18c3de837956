use Rattle.law_costs.proofs.Falls.{costs_bound_responses}
use Rattle.law_costs.proofs.laws.costs_bound_responses.Goals as goal

pub returns : goal.returns
returns c = costs_bound_responses
