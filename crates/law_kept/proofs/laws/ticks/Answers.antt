use Rattle.law_kept.proofs.Ticked.{ticks}
use Rattle.law_kept.proofs.laws.ticks.Goals as goal

pub returns : goal.returns
returns c = ticks
