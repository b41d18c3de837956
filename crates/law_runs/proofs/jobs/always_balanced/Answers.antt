use Rattle.law_runs.proofs.JobBalance.{always_balanced}
use Rattle.law_runs.proofs.jobs.always_balanced.Goals as goal

pub returns : goal.returns
returns c = always_balanced
