use Rattle.law_costs.proofs.Known.{runs_are_known}
use Rattle.law_costs.proofs.laws.runs_are_known.Goals as goal

pub returns : goal.returns
returns c = runs_are_known
