-- The rest is shorter.
use Rattle.std.proofs.Common.{length}
use Rattle.analysis_bounds.proofs.coming.+most_of.Given as goal

abbrev pub decreases-most_of : goal.decreases-most_of
decreases-most_of l = length l.rules.now
