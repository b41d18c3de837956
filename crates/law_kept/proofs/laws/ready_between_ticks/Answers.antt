use Rattle.law_kept.proofs.InRuns.{ready_between_ticks}
use Rattle.law_kept.proofs.laws.ready_between_ticks.Goals as goal

pub returns : goal.returns
returns c = ready_between_ticks
