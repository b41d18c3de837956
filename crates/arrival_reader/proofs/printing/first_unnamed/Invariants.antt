use Rattle.std.proofs.Common.{◌≡◌, ◌+◌, drop}
use Rattle.arrival_reader.specs.PrintedArrivals.{first_unnamed}
use Rattle.arrival_reader.proofs.printing.first_unnamed.Given as goal

abbrev pub invariant-arrivals : goal.invariant-arrivals
invariant-arrivals l =
    first_unnamed l.routines (l.i + 1) (drop l.i l.arrivals)
    ≡ first_unnamed l.routines 1 l.arrivals
