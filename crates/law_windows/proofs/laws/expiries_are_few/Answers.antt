use Rattle.law_windows.proofs.Expiring.{expiries_are_few}
use Rattle.law_windows.proofs.laws.expiries_are_few.Goals as goal

pub returns : goal.returns
returns c = expiries_are_few
