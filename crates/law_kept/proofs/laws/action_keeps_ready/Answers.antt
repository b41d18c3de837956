use Rattle.law_kept.proofs.InRuns.{action_keeps_ready}
use Rattle.law_kept.proofs.laws.action_keeps_ready.Goals as goal

pub returns : goal.returns
returns c = action_keeps_ready
