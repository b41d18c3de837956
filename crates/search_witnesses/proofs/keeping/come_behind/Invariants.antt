use Rattle.std.specs.List.{list_all}
use Rattle.search_witnesses.specs.Listing.{comes_behind}
use Rattle.search_witnesses.proofs.Ordered.{IsLeft}
use Rattle.search_witnesses.proofs.keeping.come_behind.Given as goal

abbrev pub invariant-loop-arrival : goal.invariant-loop-arrival
invariant-loop-arrival l = IsLeft (list_all (comes_behind l.routine l.tick)) l.later l.arrival-index
