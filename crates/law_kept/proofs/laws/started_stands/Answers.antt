use Rattle.law_kept.proofs.Standing.{started_stands}
use Rattle.law_kept.proofs.laws.started_stands.Goals as goal

pub returns : goal.returns
returns c = started_stands
