use Rattle.std.proofs.Common.{◌≡◌, drop}
use Rattle.cli_tables.specs.Arriving.{said_of}
use Rattle.cli_tables.proofs.arriving.said_of.Given as goal

abbrev pub invariant-loop-ticks : goal.invariant-loop-ticks
invariant-loop-ticks l =
    said_of (drop l.ticks-index l.said) l.routine ≡ said_of l.said l.routine
