use Rattle.law_windows.proofs.Losses.{soon_started_are_not_lost}
use Rattle.law_windows.proofs.laws.soon_started_are_not_lost.Goals as goal

pub returns : goal.returns
returns c = soon_started_are_not_lost
