use Rattle.std.proofs.Common.{◌-◌}
use Rattle.search_witnesses.proofs.Stood.{HasStood}
use Rattle.search_witnesses.proofs.lasso.stand_to.Given as goal

abbrev pub invariant-loop-walk : goal.invariant-loop-walk
invariant-loop-walk l = HasStood l.fn.walk l.walk l.task

-- the ticks that are left
abbrev pub decreases-loop-walk : goal.decreases-loop-walk
decreases-loop-walk l = l.tick - l.walk.ticks
