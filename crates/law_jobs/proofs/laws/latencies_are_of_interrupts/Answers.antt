use Rattle.law_jobs.proofs.Pending.{latencies_are_of_interrupts}
use Rattle.law_jobs.proofs.laws.latencies_are_of_interrupts.Goals as goal

pub returns : goal.returns
returns c = latencies_are_of_interrupts
