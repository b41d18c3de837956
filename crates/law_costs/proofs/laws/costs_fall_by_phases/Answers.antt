use Rattle.law_costs.proofs.Falls.{costs_fall_by_phases}
use Rattle.law_costs.proofs.laws.costs_fall_by_phases.Goals as goal

pub returns : goal.returns
returns c = costs_fall_by_phases
