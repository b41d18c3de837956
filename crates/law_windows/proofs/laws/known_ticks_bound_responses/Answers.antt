use Rattle.law_windows.proofs.AtKnownTicks.{known_ticks_bound_responses}
use Rattle.law_windows.proofs.laws.known_ticks_bound_responses.Goals as goal

pub returns : goal.returns
returns c = known_ticks_bound_responses
