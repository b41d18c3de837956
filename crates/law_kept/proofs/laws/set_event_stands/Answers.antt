use Rattle.law_kept.proofs.Standing.{set_event_stands}
use Rattle.law_kept.proofs.laws.set_event_stands.Goals as goal

pub returns : goal.returns
returns c = set_event_stands
