use Rattle.law_runs.proofs.SingleTick.{starts_singly}
use Rattle.law_runs.proofs.runs.starts_singly.Goals as goal

pub returns : goal.returns
returns c = starts_singly
