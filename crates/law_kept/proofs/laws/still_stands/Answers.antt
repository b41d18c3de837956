use Rattle.law_kept.proofs.Standing.{still_stands}
use Rattle.law_kept.proofs.laws.still_stands.Goals as goal

pub returns : goal.returns
returns c = still_stands
