use Rattle.law_figures.proofs.Ages.{responses_are_ages}
use Rattle.law_figures.proofs.laws.responses_are_ages.Goals as goal

pub returns : goal.returns
returns c = responses_are_ages
