use Rattle.law_windows.proofs.AtExpiries.{expiries_bound_responses}
use Rattle.law_windows.proofs.laws.expiries_bound_responses.Goals as goal

pub returns : goal.returns
returns c = expiries_bound_responses
