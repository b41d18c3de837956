use Rattle.law_alarms.proofs.Gaps.{always_apart}
use Rattle.law_alarms.proofs.laws.always_apart.Goals as goal

pub returns : goal.returns
returns c = always_apart
