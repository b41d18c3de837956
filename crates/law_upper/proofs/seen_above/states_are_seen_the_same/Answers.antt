use Rattle.law_upper.proofs.States.{states_are_seen_the_same}
use Rattle.law_upper.proofs.seen_above.states_are_seen_the_same.Goals as goal

pub returns : goal.returns
returns c = states_are_seen_the_same
