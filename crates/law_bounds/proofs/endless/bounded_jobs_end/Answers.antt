use Rattle.law_bounds.proofs.Ending.{bounded_jobs_end}
use Rattle.law_bounds.proofs.endless.bounded_jobs_end.Goals as goal

pub returns : goal.returns
returns c = bounded_jobs_end
