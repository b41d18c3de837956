use Rattle.law_upper.proofs.Releasing.{bounded_upper_holds_end}
use Rattle.law_upper.proofs.figures_above.bounded_upper_holds_end.Goals as goal

pub returns : goal.returns
returns c = bounded_upper_holds_end
