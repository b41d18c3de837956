use Rattle.search_keys.proofs.Told.{keys_tell}
use Rattle.search_keys.proofs.laws.keys_tell.Goals as goal

pub returns : goal.returns
returns c = keys_tell
