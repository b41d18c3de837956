use Rattle.std.proofs.Common.{◌≡◌, ◌++◌, drop}
use Rattle.cli_tables.specs.Arriving.{rules_from}
use Rattle.cli_tables.proofs.arriving.rules_by.Given as goal

abbrev pub invariant-loop-number : goal.invariant-loop-number
invariant-loop-number l =
    l.all.items ++ rules_from l.said l.number (drop l.number l.routines)
    ≡ rules_from l.said 0 l.routines
