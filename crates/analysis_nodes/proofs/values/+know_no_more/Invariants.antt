use Rattle.std.proofs.Common.{length}
use Rattle.analysis_nodes.proofs.values.+know_no_more.Given as goal

abbrev pub decreases-know_no_more : goal.decreases-know_no_more
decreases-know_no_more l = length l.few.now
