-- The rest is shorter.
use Rattle.std.proofs.Common.{length}
use Rattle.osek_base.proofs.ceilings.+highest.Given as goal

abbrev pub decreases-highest : goal.decreases-highest
decreases-highest l = length l.tasks.now
