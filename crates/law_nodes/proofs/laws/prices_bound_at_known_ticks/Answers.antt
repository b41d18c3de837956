use Rattle.law_nodes.proofs.AtKnownTicks.{prices_bound_at_expiries, prices_bound_at_known_ticks}
use Rattle.law_nodes.proofs.laws.prices_bound_at_known_ticks.Goals as goal

pub returns : goal.returns
returns c = record { together = prices_bound_at_known_ticks; one_by_one = prices_bound_at_expiries }
