use Rattle.law_seen.proofs.AlikeShown.{alike_show}
use Rattle.law_seen.proofs.laws.alike_show.Goals as goal

pub returns : goal.returns
returns c = alike_show
