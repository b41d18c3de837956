use Rattle.law_jobs.proofs.Starting.{interrupts_start_within}
use Rattle.law_jobs.proofs.laws.interrupts_start_within.Goals as goal

pub returns : goal.returns
returns c = interrupts_start_within
