use Rattle.std.proofs.Common.{◌≡◌, drop}
use Rattle.cli_tables.specs.Arriving.{first_lone}
use Rattle.cli_tables.proofs.arriving.first_lone.Given as goal

abbrev pub invariant-loop-jitter : goal.invariant-loop-jitter
invariant-loop-jitter l =
    first_lone l.periods (drop l.jitter-index l.jitters) ≡ first_lone l.periods l.jitters
