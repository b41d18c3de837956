use Rattle.law_jobs.proofs.Ending.{oldest_is_job}
use Rattle.law_jobs.proofs.laws.oldest_is_job.Goals as goal

pub returns : goal.returns
returns c = oldest_is_job
