use Rattle.law_alarms.proofs.OfBoot.{never_started}
use Rattle.law_alarms.proofs.laws.never_started.Goals as goal

pub returns : goal.returns
returns c = never_started
