use Rattle.law_windows.proofs.Expiring.{gaps_bound_responses}
use Rattle.law_windows.proofs.laws.gaps_bound_responses.Goals as goal

pub returns : goal.returns
returns c = gaps_bound_responses
