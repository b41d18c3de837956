use Rattle.std.proofs.Common.{◌≡◌, ◌-◌}
use Rattle.search_witnesses.proofs.lasso.go_to.Given as goal

abbrev pub invariant-loop-walk : goal.invariant-loop-walk
invariant-loop-walk l = l.walk ≡ record l.fn.walk { ticks = l.walk.ticks }

-- the ticks that are left
abbrev pub decreases-loop-walk : goal.decreases-loop-walk
decreases-loop-walk l = l.tick - l.walk.ticks
