use Rattle.arrival_rules.proofs.Owed.{debts_are_below}
use Rattle.arrival_rules.proofs.laws.debts_are_below.Goals as goal

pub returns : goal.returns
returns c = debts_are_below
