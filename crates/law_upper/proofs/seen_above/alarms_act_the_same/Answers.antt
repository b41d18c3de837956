use Rattle.law_upper.proofs.Answered.{alarms_act_the_same}
use Rattle.law_upper.proofs.seen_above.alarms_act_the_same.Goals as goal

pub returns : goal.returns
returns c = alarms_act_the_same
