use Rattle.std.proofs.Common.{◌≡◌, ◌+◌, drop}
use Rattle.std.specs.Option.{option_map}
use Rattle.osek_base.specs.Names.{number_of}
use Rattle.view_measures.specs.Kinds.{names_of}
use Rattle.cli_tables.proofs.naming.number_of.Given as goal

-- the number among all is that among those that are left
abbrev pub invariant-loop-number : goal.invariant-loop-number
invariant-loop-number l =
    number_of l.name (names_of l.system l.kind)
    ≡ option_map (λ k. l.number + k) (number_of l.name (drop l.number (names_of l.system l.kind)))
