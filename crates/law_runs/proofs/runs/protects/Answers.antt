use Rattle.law_runs.proofs.Protection.{protects}
use Rattle.law_runs.proofs.runs.protects.Goals as goal

pub returns : goal.returns
returns c = protects
