use Rattle.law_seen.proofs.Shown.{seen_is_shown}
use Rattle.law_seen.proofs.laws.seen_is_shown.Goals as goal

pub returns : goal.returns
returns c = seen_is_shown
