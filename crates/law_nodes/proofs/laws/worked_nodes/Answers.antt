use Rattle.law_nodes.proofs.WorkedLemmas.{worked}
use Rattle.law_nodes.proofs.laws.worked_nodes.Goals as goal

pub returns : goal.returns
returns c = worked
