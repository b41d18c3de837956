use Rattle.law_figures.proofs.Pending.{pending_is_age}
use Rattle.law_figures.proofs.laws.pending_is_age.Goals as goal

pub returns : goal.returns
returns c = pending_is_age
