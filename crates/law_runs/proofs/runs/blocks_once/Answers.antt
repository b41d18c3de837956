use Rattle.law_runs.proofs.Blocking.{blocks_once}
use Rattle.law_runs.proofs.runs.blocks_once.Goals as goal

pub returns : goal.returns
returns c = blocks_once
