use Rattle.law_bounds.proofs.Releasing.{bounded_holds_end}
use Rattle.law_bounds.proofs.endless.bounded_holds_end.Goals as goal

pub returns : goal.returns
returns c = bounded_holds_end
