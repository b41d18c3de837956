-- The rest is shorter.
use Rattle.std.proofs.Common.{length}
use Rattle.osek_base.proofs.ceilings.+highest_that_lists.Given as goal

abbrev pub decreases-highest_that_lists : goal.decreases-highest_that_lists
decreases-highest_that_lists l = length l.tasks.now
