use Rattle.law_kept.proofs.InRuns.{serves_in_runs}
use Rattle.law_kept.proofs.laws.serves_in_runs.Goals as goal

pub returns : goal.returns
returns c = serves_in_runs
