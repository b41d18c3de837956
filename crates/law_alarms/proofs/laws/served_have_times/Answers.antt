use Rattle.law_alarms.proofs.Times.{served_have_times}
use Rattle.law_alarms.proofs.laws.served_have_times.Goals as goal

pub returns : goal.returns
returns c = served_have_times
