use Rattle.law_bounds.proofs.Rounds.{lassos_are_endless}
use Rattle.law_bounds.proofs.endless.lassos_are_endless.Goals as goal

pub returns : goal.returns
returns c = lassos_are_endless c.keys_tell_futures.ensures
