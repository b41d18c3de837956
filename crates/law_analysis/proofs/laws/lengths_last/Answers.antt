use Rattle.law_analysis.proofs.Lengths.{lengths_last}
use Rattle.law_analysis.proofs.laws.lengths_last.Goals as goal

pub returns : goal.returns
returns c = lengths_last
