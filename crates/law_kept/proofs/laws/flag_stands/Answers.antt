use Rattle.law_kept.proofs.Standing.{flag_stands}
use Rattle.law_kept.proofs.laws.flag_stands.Goals as goal

pub returns : goal.returns
returns c = flag_stands
