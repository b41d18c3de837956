use Rattle.law_bounds.proofs.Lost.{lost_change_nothing}
use Rattle.law_bounds.proofs.laws.lost_change_nothing.Goals as goal

pub returns : goal.returns
returns c = lost_change_nothing
