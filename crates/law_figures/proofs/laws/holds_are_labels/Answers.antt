use Rattle.law_figures.proofs.Holding.{holds_are_labels}
use Rattle.law_figures.proofs.laws.holds_are_labels.Goals as goal

pub returns : goal.returns
returns c = holds_are_labels
