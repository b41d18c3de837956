use Rattle.law_bounds.proofs.Trying.{one_state_tells}
use Rattle.law_bounds.proofs.laws.one_state_tells.Goals as goal

pub returns : goal.returns
returns c = one_state_tells c.keys_tell_futures.ensures
