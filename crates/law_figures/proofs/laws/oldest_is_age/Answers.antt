use Rattle.law_figures.proofs.Ages.{oldest_is_age}
use Rattle.law_figures.proofs.laws.oldest_is_age.Goals as goal

pub returns : goal.returns
returns c = oldest_is_age
