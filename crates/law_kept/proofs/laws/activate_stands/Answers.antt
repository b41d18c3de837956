use Rattle.law_kept.proofs.Standing.{activate_stands}
use Rattle.law_kept.proofs.laws.activate_stands.Goals as goal

pub returns : goal.returns
returns c = activate_stands
