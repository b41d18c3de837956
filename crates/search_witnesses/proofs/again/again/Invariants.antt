use Rattle.std.proofs.Common.{◌≡◌, ◌++◌, ◌-◌, drop}
use Rattle.law_bounds.specs.Lassos.{again, repeated}
use Rattle.search_witnesses.proofs.again.again.Given as goal

-- with what is left repeated, it is all
abbrev pub invariant-loop-arrival : goal.invariant-loop-arrival
invariant-loop-arrival l =
    l.all.items ++ repeated l.from (l.until - l.from) (drop l.arrival-index l.arrivals)
    ≡ again l.from l.until l.arrivals
