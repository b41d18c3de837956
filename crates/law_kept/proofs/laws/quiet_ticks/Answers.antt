use Rattle.law_kept.proofs.Quiet.{quiet_ticks}
use Rattle.law_kept.proofs.laws.quiet_ticks.Goals as goal

pub returns : goal.returns
returns c = quiet_ticks
