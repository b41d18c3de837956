use Rattle.std.proofs.Common.{◌≡◌, drop}
use Rattle.oil_reader.specs.Attributes.{attribute_named}
use Rattle.oil_reader.proofs.object_faults.attribute_named.Given as goal

abbrev pub invariant-loop-attribute : goal.invariant-loop-attribute
invariant-loop-attribute l = attribute_named (drop l.attribute-index l.allowed) l.name ≡ attribute_named l.allowed l.name
