use Rattle.law_analysis.proofs.Refusing.{alarms_refuse_none}
use Rattle.law_analysis.proofs.laws.alarms_refuse_none.Goals as goal

pub returns : goal.returns
returns c = alarms_refuse_none
