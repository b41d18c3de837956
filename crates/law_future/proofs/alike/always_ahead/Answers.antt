use Rattle.law_future.proofs.Ahead.{always_ahead}
use Rattle.law_future.proofs.alike.always_ahead.Goals as goal

pub returns : goal.returns
returns c = always_ahead
