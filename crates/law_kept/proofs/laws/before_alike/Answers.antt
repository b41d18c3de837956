use Rattle.law_kept.proofs.InRuns.{before_alike}
use Rattle.law_kept.proofs.laws.before_alike.Goals as goal

pub returns : goal.returns
returns c = before_alike
