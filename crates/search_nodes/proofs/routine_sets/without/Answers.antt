use Rattle.search_nodes.proofs.SetLemmas.{in_first, left_over}
use Rattle.search_nodes.proofs.routine_sets.without.Goals as goal

pub returns-clause-less : goal.returns-clause-less
returns-clause-less c i = in_first c.args.set _ i

pub returns-clause-others : goal.returns-clause-others
returns-clause-others c = left_over c.args.set c.args.other c.ranges.other.fits
