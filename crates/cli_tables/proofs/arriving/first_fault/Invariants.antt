use Rattle.std.proofs.Common.{◌≡◌, [], take, drop}
use Rattle.cli_tables.specs.Arriving.{first_fault}
use Rattle.cli_tables.proofs.arriving.first_fault.Given as goal

abbrev pub invariant-said : goal.invariant-said
invariant-said l =
    first_fault l.word l.routines (take l.number l.said) (drop l.number l.said)
    ≡ first_fault l.word l.routines [] l.said
