use Rattle.law_figures.proofs.Seen.{labels_go_by_seen}
use Rattle.law_figures.proofs.laws.labels_go_by_seen.Goals as goal

pub returns : goal.returns
returns c = labels_go_by_seen
