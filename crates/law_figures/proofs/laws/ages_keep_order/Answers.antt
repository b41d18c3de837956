use Rattle.law_figures.proofs.AgeOrder.{ages_keep_order}
use Rattle.law_figures.proofs.laws.ages_keep_order.Goals as goal

pub returns : goal.returns
returns c = ages_keep_order
