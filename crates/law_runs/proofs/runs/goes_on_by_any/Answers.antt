use Rattle.law_runs.proofs.Arriving.{goes_on_by_any}
use Rattle.law_runs.proofs.runs.goes_on_by_any.Goals as goal

pub returns : goal.returns
returns c = goes_on_by_any
