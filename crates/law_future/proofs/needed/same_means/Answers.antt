use Rattle.law_future.proofs.Meanings.{same_means}
use Rattle.law_future.proofs.needed.same_means.Goals as goal

pub returns : goal.returns
returns c = same_means
