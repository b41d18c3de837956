use Rattle.law_future.proofs.Runs.{runs_keep_indices}
use Rattle.law_future.proofs.needed.runs_keep_indices.Goals as goal

pub returns : goal.returns
returns c = runs_keep_indices
