use Rattle.std.proofs.Common.{◌≡◌, drop}
use Rattle.search_witnesses.specs.Listing.{keeps_from}
use Rattle.search_witnesses.proofs.keeping.keep_one.Given as goal

abbrev pub invariant-loop-arrival : goal.invariant-loop-arrival
invariant-loop-arrival l =
    keeps_from l.rule l.debt.owed l.debt.since (drop l.arrival-index l.arrivals)
    ≡ keeps_from l.rule 0 0 l.arrivals
