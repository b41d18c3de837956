use Rattle.law_bounds.proofs.Trying.{labels_are_ordered}
use Rattle.law_bounds.proofs.laws.labels_are_ordered.Goals as goal

pub returns : goal.returns
returns c = labels_are_ordered
