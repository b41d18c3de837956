use Rattle.law_bounds.proofs.Bounding.{levels_bound}
use Rattle.law_bounds.proofs.laws.levels_bound.Goals as goal

pub returns : goal.returns
returns c = levels_bound
