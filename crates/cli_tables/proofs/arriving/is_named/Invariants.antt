use Rattle.std.proofs.Common.{◌≡◌, drop}
use Rattle.osek_base.specs.Names.{is_named}
use Rattle.cli_tables.proofs.arriving.is_named.Given as goal

abbrev pub invariant-loop-known : goal.invariant-loop-known
invariant-loop-known l = is_named l.name (drop l.known-index l.names) ≡ is_named l.name l.names
