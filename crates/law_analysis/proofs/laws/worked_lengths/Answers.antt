use Rattle.law_analysis.proofs.WorkedLemmas.{worked}
use Rattle.law_analysis.proofs.laws.worked_lengths.Goals as goal

pub returns : goal.returns
returns c = worked
