use Rattle.law_alarms.proofs.OnTime.{always_on_time}
use Rattle.law_alarms.proofs.laws.always_on_time.Goals as goal

pub returns : goal.returns
returns c = always_on_time
