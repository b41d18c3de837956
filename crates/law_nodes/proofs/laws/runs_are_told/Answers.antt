use Rattle.law_nodes.proofs.Closing.{runs_are_told}
use Rattle.law_nodes.proofs.laws.runs_are_told.Goals as goal

pub returns : goal.returns
returns c = runs_are_told
