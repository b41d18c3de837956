use Rattle.law_bounds.proofs.Trying.{subsets_may}
use Rattle.law_bounds.proofs.laws.subsets_may.Goals as goal

pub returns : goal.returns
returns c = subsets_may
