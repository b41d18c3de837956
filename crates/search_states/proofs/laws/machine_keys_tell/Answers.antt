use Rattle.search_states.proofs.MachineLemmas.{machines_tell}
use Rattle.search_states.proofs.laws.machine_keys_tell.Goals as goal

pub returns : goal.returns
returns c = machines_tell c.keys_tell.ensures c.runs_are_in_range.ensures
