use Rattle.law_runs.proofs.Excluding.{excludes}
use Rattle.law_runs.proofs.runs.excludes.Goals as goal

pub returns : goal.returns
returns c = excludes
