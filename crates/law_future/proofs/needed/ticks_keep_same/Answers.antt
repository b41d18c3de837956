use Rattle.law_future.proofs.NeededTicks.{ticks_keep_same}
use Rattle.law_future.proofs.needed.ticks_keep_same.Goals as goal

pub returns : goal.returns
returns c = ticks_keep_same
