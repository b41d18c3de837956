use Rattle.law_kept.proofs.Standing.{reschedule_stands}
use Rattle.law_kept.proofs.laws.reschedule_stands.Goals as goal

pub returns : goal.returns
returns c = reschedule_stands
