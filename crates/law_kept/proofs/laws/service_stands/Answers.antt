use Rattle.law_kept.proofs.Standing.{service_stands}
use Rattle.law_kept.proofs.laws.service_stands.Goals as goal

pub returns : goal.returns
returns c = service_stands
