use Rattle.law_analysis.proofs.Refusing.{routines_refuse_none}
use Rattle.law_analysis.proofs.laws.routines_refuse_none.Goals as goal

pub returns : goal.returns
returns c = routines_refuse_none
