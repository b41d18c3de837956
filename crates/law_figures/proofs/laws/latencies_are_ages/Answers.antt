use Rattle.law_figures.proofs.Pending.{latencies_are_ages}
use Rattle.law_figures.proofs.laws.latencies_are_ages.Goals as goal

pub returns : goal.returns
returns c = latencies_are_ages
