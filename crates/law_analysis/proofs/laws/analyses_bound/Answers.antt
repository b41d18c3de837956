use Rattle.law_analysis.proofs.Bounding.{analyses_bound}
use Rattle.law_analysis.proofs.laws.analyses_bound.Goals as goal

pub returns : goal.returns
returns c = analyses_bound
