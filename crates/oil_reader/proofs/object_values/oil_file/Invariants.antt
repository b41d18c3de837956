use Rattle.std.proofs.Common.{◌≡◌, drop}
use Rattle.oil_reader.specs.Meaning.{with_objects, configuration_of}
use Rattle.oil_reader.specs.Trees.{file_of, objects_of}
use Rattle.oil_reader.proofs.object_values.oil_file.Given as goal

abbrev pub invariant-loop-object : goal.invariant-loop-object
invariant-loop-object l = record {
  items : l.object-items ≡ l.tree.objects.items;
  same : with_objects l.parts (objects_of (drop l.object-index l.object-items)) ≡ configuration_of (file_of l.tree);
}
