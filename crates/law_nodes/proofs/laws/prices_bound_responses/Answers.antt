use Rattle.law_nodes.proofs.Bounding.{prices_bound_responses}
use Rattle.law_nodes.proofs.laws.prices_bound_responses.Goals as goal

pub returns : goal.returns
returns c = prices_bound_responses
