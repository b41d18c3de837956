use Rattle.law_jobs.proofs.Aging.{ages_are_of_jobs}
use Rattle.law_jobs.proofs.laws.ages_are_of_jobs.Goals as goal

pub returns : goal.returns
returns c = ages_are_of_jobs
