use Rattle.law_jobs.proofs.Ending.{jobs_end_within}
use Rattle.law_jobs.proofs.laws.jobs_end_within.Goals as goal

pub returns : goal.returns
returns c = jobs_end_within
