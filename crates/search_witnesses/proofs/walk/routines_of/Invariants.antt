use Rattle.std.proofs.Common.{◌≡◌, map, take}
use Rattle.search_witnesses.proofs.walk.routines_of.Given as goal

-- the routines of the arrivals so far
abbrev pub invariant-loop-arrival : goal.invariant-loop-arrival
invariant-loop-arrival l = l.routines.items ≡ map (λ a. a.routine) (take l.arrival-index l.list)
