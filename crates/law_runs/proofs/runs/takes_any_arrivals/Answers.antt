use Rattle.law_runs.proofs.Arriving.{takes_any_arrivals}
use Rattle.law_runs.proofs.runs.takes_any_arrivals.Goals as goal

pub returns : goal.returns
returns c = takes_any_arrivals
