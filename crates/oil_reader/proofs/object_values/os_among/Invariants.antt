use Rattle.std.proofs.Common.{◌≡◌, true, drop}
use Rattle.oil_reader.specs.Checks.{has_kind}
use Rattle.oil_reader.specs.Meaning.{os_among}
use Rattle.oil_reader.specs.Trees.{objects_of}
use Rattle.oil_reader.specs.declared.syntax.Kind.TheVariants as kind
use Rattle.oil_reader.proofs.object_values.os_among.Given as goal

abbrev pub invariant-loop-object : goal.invariant-loop-object
invariant-loop-object l = record {
  has : has_kind kind.Os (objects_of (drop l.object-index l.objects)) ≡ true;
  same : os_among (objects_of (drop l.object-index l.objects)) ≡ os_among (objects_of l.objects);
}
