use Rattle.law_future.proofs.Same.{same_is_alike}
use Rattle.law_future.proofs.alike.same_is_alike.Goals as goal

pub returns : goal.returns
returns c = same_is_alike
