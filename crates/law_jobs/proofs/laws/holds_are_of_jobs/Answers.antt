use Rattle.law_jobs.proofs.Holds.{holds_are_of_jobs}
use Rattle.law_jobs.proofs.laws.holds_are_of_jobs.Goals as goal

pub returns : goal.returns
returns c = holds_are_of_jobs
