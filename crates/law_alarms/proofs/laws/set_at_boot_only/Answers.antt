use Rattle.law_alarms.proofs.OfBoot.{set_at_boot_only}
use Rattle.law_alarms.proofs.laws.set_at_boot_only.Goals as goal

pub returns : goal.returns
returns c = set_at_boot_only
