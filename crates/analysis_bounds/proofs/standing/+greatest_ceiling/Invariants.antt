-- The rest is shorter.
use Rattle.std.proofs.Common.{length}
use Rattle.analysis_bounds.proofs.standing.+greatest_ceiling.Given as goal

abbrev pub decreases-greatest_ceiling : goal.decreases-greatest_ceiling
decreases-greatest_ceiling l = length l.held.now
