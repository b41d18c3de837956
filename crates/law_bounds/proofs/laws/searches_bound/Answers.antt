use Rattle.law_bounds.proofs.Bounding.{searches_bound}
use Rattle.law_bounds.proofs.laws.searches_bound.Goals as goal

pub returns : goal.returns
returns c = searches_bound
