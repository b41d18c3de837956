use Rattle.std.proofs.Common.{◌≤◌, ◌-◌}
use Rattle.search.specs.Subsets.{NoSubset}
use Rattle.search.proofs.sets.subset_from.Given as goal

abbrev pub invariant-sets : goal.invariant-sets
invariant-sets l = record {
  from : l.from ≤ l.set;
  none : NoSubset l.whole l.from l.set;
}

abbrev pub decreases-sets : goal.decreases-sets
decreases-sets l = 18446744073709551616 - l.set
