use Rattle.law_windows.proofs.Arrivals.{arrivals_are_few}
use Rattle.law_windows.proofs.laws.arrivals_are_few.Goals as goal

pub returns : goal.returns
returns c = arrivals_are_few
