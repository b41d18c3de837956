use Rattle.law_bounds.proofs.Covering.{nodes_are_kept}
use Rattle.law_bounds.proofs.laws.nodes_are_kept.Goals as goal

pub returns : goal.returns
returns c = nodes_are_kept
