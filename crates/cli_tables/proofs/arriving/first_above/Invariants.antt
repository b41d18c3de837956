use Rattle.std.proofs.Common.{◌≡◌, drop}
use Rattle.cli_tables.specs.Arriving.{first_above}
use Rattle.cli_tables.proofs.arriving.first_above.Given as goal

abbrev pub invariant-loop-least : goal.invariant-loop-least
invariant-loop-least l =
    first_above l.periods (drop l.least-index l.leasts) ≡ first_above l.periods l.leasts
