use Rattle.law_kept.proofs.Standing.{start_stands}
use Rattle.law_kept.proofs.laws.start_stands.Goals as goal

pub returns : goal.returns
returns c = start_stands
