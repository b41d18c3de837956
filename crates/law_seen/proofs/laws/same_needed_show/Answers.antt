use Rattle.law_seen.proofs.NeededShown.{same_needed_show}
use Rattle.law_seen.proofs.laws.same_needed_show.Goals as goal

pub returns : goal.returns
returns c = same_needed_show
