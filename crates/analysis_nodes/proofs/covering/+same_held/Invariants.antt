use Rattle.std.proofs.Common.{length}
use Rattle.analysis_nodes.proofs.covering.+same_held.Given as goal

abbrev pub decreases-same_held : goal.decreases-same_held
decreases-same_held l = length l.some.now
