use Rattle.search_witnesses.specs.Listing.{come_once}
use Rattle.search_witnesses.proofs.Ordered.{IsLeft}
use Rattle.search_witnesses.proofs.keeping.come_once.Given as goal

abbrev pub invariant-loop-place : goal.invariant-loop-place
invariant-loop-place l = IsLeft come_once l.arrivals l.place
