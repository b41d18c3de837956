use Rattle.law_blockers.proofs.AfterStamps.{run_listed}
use Rattle.law_blockers.proofs.laws.lists_behind.Goals as goal

pub returns : goal.returns
returns c = λ S mode arrivals n xs proper going lists. run_listed S proper mode arrivals n going xs lists
