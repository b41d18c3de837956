use Rattle.law_figures.proofs.Merging.{labels_merge}
use Rattle.law_figures.proofs.laws.labels_merge.Goals as goal

pub returns : goal.returns
returns c = labels_merge
