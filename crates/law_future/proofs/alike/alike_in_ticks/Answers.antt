use Rattle.law_future.proofs.AlikeIn.{alike_in_ticks}
use Rattle.law_future.proofs.alike.alike_in_ticks.Goals as goal

pub returns : goal.returns
returns c = alike_in_ticks
