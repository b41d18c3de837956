use Rattle.law_blockers.proofs.BeforeStamps.{before_listed}
use Rattle.law_blockers.proofs.laws.lists_before.Goals as goal

pub returns : goal.returns
returns c = λ S mode arrivals n xs proper going lists. before_listed S mode arrivals n xs proper going lists
