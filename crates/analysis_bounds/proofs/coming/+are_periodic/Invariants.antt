-- The rest is shorter.
use Rattle.std.proofs.Common.{length}
use Rattle.analysis_bounds.proofs.coming.+are_periodic.Given as goal

abbrev pub decreases-are_periodic : goal.decreases-are_periodic
decreases-are_periodic l = length l.rules.now
