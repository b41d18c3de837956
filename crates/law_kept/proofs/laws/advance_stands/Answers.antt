use Rattle.law_kept.proofs.Standing.{advance_stands}
use Rattle.law_kept.proofs.laws.advance_stands.Goals as goal

pub returns : goal.returns
returns c = advance_stands
