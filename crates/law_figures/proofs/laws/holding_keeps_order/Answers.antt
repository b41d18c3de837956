use Rattle.law_figures.proofs.Holding.{holding_keeps_order}
use Rattle.law_figures.proofs.laws.holding_keeps_order.Goals as goal

pub returns : goal.returns
returns c = holding_keeps_order
