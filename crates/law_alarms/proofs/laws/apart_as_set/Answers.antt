use Rattle.law_alarms.proofs.Gaps.{apart_as_set}
use Rattle.law_alarms.proofs.laws.apart_as_set.Goals as goal

pub returns : goal.returns
returns c = apart_as_set
