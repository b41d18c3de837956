use Rattle.law_jobs.proofs.Responses.{responses_are_of_jobs}
use Rattle.law_jobs.proofs.laws.responses_are_of_jobs.Goals as goal

pub returns : goal.returns
returns c = responses_are_of_jobs
