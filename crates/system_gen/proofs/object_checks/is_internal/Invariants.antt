use Rattle.std.proofs.Common.{◌≡◌, drop}
use Rattle.std.specs.List.{list_any}
use Rattle.system_gen.specs.Checks.{is_internal_named}
use Rattle.system_gen.proofs.object_checks.is_internal.Given as goal

abbrev pub invariant-loop-resource : goal.invariant-loop-resource
invariant-loop-resource l = list_any (is_internal_named l.name) (drop l.resource-index l.resources) ≡ list_any (is_internal_named l.name) l.resources
