use Rattle.std.proofs.Common.{◌≤◌, ◌-◌, length}
use Rattle.search_needs.specs.Everything.{AreAll}
use Rattle.search_needs.proofs.needed.all_of_owners.Given as goal

abbrev pub invariant-loop-alloc : goal.invariant-loop-alloc
invariant-loop-alloc l = AreAll l.owners.items × (length l.owners.items ≤ l.count)

abbrev pub decreases-loop-alloc : goal.decreases-loop-alloc
decreases-loop-alloc l = l.count - length l.owners.items
