use Rattle.std.proofs.Common.{length}
use Rattle.resources.proofs.held.+highest_ceiling.Given as goal

abbrev pub decreases-highest_ceiling : goal.decreases-highest_ceiling
decreases-highest_ceiling l = length l.resources.now
