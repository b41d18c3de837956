use Rattle.law_runs.proofs.Arriving.{depends_on_the_past}
use Rattle.law_runs.proofs.runs.depends_on_the_past.Goals as goal

pub returns : goal.returns
returns c = depends_on_the_past
