use Rattle.std.proofs.Common.{length}
use Rattle.analysis_nodes.proofs.calling.+is_last.Given as goal

abbrev pub decreases-is_last : goal.decreases-is_last
decreases-is_last l = length l.held.now
