use Rattle.law_kept.proofs.Ticked.{boots}
use Rattle.law_kept.proofs.laws.boots.Goals as goal

pub returns : goal.returns
returns c = boots
