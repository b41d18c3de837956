use Rattle.std.proofs.Common.{◌-◌, length}
use Rattle.kernel.proofs.ArrivalLemmas.{AreTaken}
use Rattle.search_witnesses.proofs.came.came_by.Given as goal

-- what is left of the list
abbrev pub decreases-loop-next : goal.decreases-loop-next
decreases-loop-next l = length l.list - l.next

-- the arrivals so far are of the tick
abbrev pub invariant-loop-next : goal.invariant-loop-next
invariant-loop-next l = AreTaken l.list l.tick l.came l.next
