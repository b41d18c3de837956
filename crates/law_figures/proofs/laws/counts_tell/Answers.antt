use Rattle.law_figures.proofs.Counts.{counts_tell}
use Rattle.law_figures.proofs.laws.counts_tell.Goals as goal

pub returns : goal.returns
returns c = counts_tell
