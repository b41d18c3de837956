use Rattle.law_runs.proofs.Good.{stays_good}
use Rattle.law_runs.proofs.runs.stays_good.Goals as goal

pub returns : goal.returns
returns c = stays_good
