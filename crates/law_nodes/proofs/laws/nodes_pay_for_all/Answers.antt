use Rattle.law_nodes.proofs.PayingRoutines.{nodes_pay_for_all}
use Rattle.law_nodes.proofs.laws.nodes_pay_for_all.Goals as goal

pub returns : goal.returns
returns c = nodes_pay_for_all
