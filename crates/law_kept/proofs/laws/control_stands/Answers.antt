use Rattle.law_kept.proofs.Standing.{control_stands}
use Rattle.law_kept.proofs.laws.control_stands.Goals as goal

pub returns : goal.returns
returns c = control_stands
