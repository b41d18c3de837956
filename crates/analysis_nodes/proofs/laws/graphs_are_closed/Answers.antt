use Rattle.analysis_nodes.proofs.ClosedLemmas.{graphs_are_closed}
use Rattle.analysis_nodes.proofs.laws.graphs_are_closed.Goals as goal

pub returns : goal.returns
returns c = graphs_are_closed
