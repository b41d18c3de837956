use Rattle.law_figures.proofs.Blocking.{blocked_is_counted}
use Rattle.law_figures.proofs.laws.blocked_is_counted.Goals as goal

pub returns : goal.returns
returns c = blocked_is_counted
