use Rattle.std.specs.Prelude.{◌==◌}
use Rattle.seen_ticks.proofs.Counting.{AreCounted}
use Rattle.seen_ticks.proofs.routines_told.times.Given as goal

-- those of the arrivals gone over
abbrev pub invariant-loop-other : goal.invariant-loop-other
invariant-loop-other l = AreCounted (λ m. m == l.routine) l.arrived l.other-index l.count
