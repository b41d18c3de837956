use Rattle.search_nodes.proofs.SetLemmas.{in_both}
use Rattle.search_nodes.proofs.routine_sets.common.Goals as goal

pub returns : goal.returns
returns c = in_both c.args.set c.args.other
