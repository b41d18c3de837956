use Rattle.law_analysis.proofs.Refusing.{nobody_refuses}
use Rattle.law_analysis.proofs.laws.nobody_refuses.Goals as goal

pub returns : goal.returns
returns c = nobody_refuses
