use Rattle.law_alarms.proofs.Counting.{spaced_are_few}
use Rattle.law_alarms.proofs.laws.spaced_are_few.Goals as goal

pub returns : goal.returns
returns c = spaced_are_few
