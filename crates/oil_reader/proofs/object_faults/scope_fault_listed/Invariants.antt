use Rattle.std.proofs.Common.{◌≡◌, None, drop}
use Rattle.oil_reader.specs.Order.{first_of_all}
use Rattle.oil_reader.specs.Checks.{lacking_faults, scope_faults}
use Rattle.oil_reader.specs.Trees.{settings_of}
use Rattle.oil_reader.proofs.object_faults.scope_fault_listed.Given as goal

abbrev pub invariant-loop-attribute : goal.invariant-loop-attribute
invariant-loop-attribute l = first_of_all l.found (lacking_faults (drop l.attribute-index l.allowed) (settings_of l.settings) l.close) ≡ first_of_all None (scope_faults l.allowed (settings_of l.settings) l.close)
