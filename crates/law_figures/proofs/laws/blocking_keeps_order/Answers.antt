use Rattle.law_figures.proofs.Blocking.{blocking_keeps_order}
use Rattle.law_figures.proofs.laws.blocking_keeps_order.Goals as goal

pub returns : goal.returns
returns c = blocking_keeps_order
