use Rattle.law_upper.proofs.Refused.{executions_are_the_same}
use Rattle.law_upper.proofs.seen_above.executions_are_the_same.Goals as goal

pub returns : goal.returns
returns c = executions_are_the_same
