use Rattle.search_keys.proofs.Equal.{alike_have_one_key}
use Rattle.search_keys.proofs.laws.alike_have_one_key.Goals as goal

pub returns : goal.returns
returns c = alike_have_one_key
