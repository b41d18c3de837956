use Rattle.law_upper.proofs.Ending.{bounded_upper_jobs_end}
use Rattle.law_upper.proofs.figures_above.bounded_upper_jobs_end.Goals as goal

pub returns : goal.returns
returns c = bounded_upper_jobs_end
