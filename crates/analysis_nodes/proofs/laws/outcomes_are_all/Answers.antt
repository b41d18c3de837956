use Rattle.analysis_nodes.proofs.OutcomeLemmas.{outcomes_are_all}
use Rattle.analysis_nodes.proofs.laws.outcomes_are_all.Goals as goal

pub returns : goal.returns
returns c = outcomes_are_all
