use Rattle.law_nodes.proofs.Paid.{prices_pay_for_all}
use Rattle.law_nodes.proofs.laws.prices_pay_for_all.Goals as goal

pub returns : goal.returns
returns c = prices_pay_for_all
