use Rattle.std.proofs.Common.{◌≡◌, drop}
use Rattle.std.specs.List.{list_any}
use Rattle.system_gen.specs.Checks.{is_internal}
use Rattle.system_gen.proofs.object_checks.has_internal.Given as goal

abbrev pub invariant-loop-name : goal.invariant-loop-name
invariant-loop-name l = list_any (is_internal l.resources) (drop l.name-index l.names) ≡ list_any (is_internal l.resources) l.names
