-- The rest is shorter.
use Rattle.std.proofs.Common.{length}
use Rattle.analysis_bounds.proofs.beginning.+may_be_zeros.Given as goal

abbrev pub decreases-may_be_zeros : goal.decreases-may_be_zeros
decreases-may_be_zeros l = length l.registers.now
