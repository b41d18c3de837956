use Rattle.std.proofs.Common.{◌≡◌, drop}
use Rattle.system_gen.specs.References.{first_of, unknown}
use Rattle.system_gen.proofs.references.check_names.Given as goal

abbrev pub invariant-loop-name : goal.invariant-loop-name
invariant-loop-name l = first_of (unknown l.table) (drop l.name-index l.names) ≡ first_of (unknown l.table) l.names
