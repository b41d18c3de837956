use Rattle.law_figures.proofs.Pending.{pending_keeps_order}
use Rattle.law_figures.proofs.laws.pending_keeps_order.Goals as goal

pub returns : goal.returns
returns c = pending_keeps_order
