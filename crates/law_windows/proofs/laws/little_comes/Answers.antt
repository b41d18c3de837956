use Rattle.law_windows.proofs.Analysis.{little_comes}
use Rattle.law_windows.proofs.laws.little_comes.Goals as goal

pub returns : goal.returns
returns c = little_comes
