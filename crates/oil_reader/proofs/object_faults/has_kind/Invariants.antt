use Rattle.std.proofs.Common.{◌≡◌, drop}
use Rattle.oil_reader.specs.Checks.{has_kind}
use Rattle.oil_reader.specs.Trees.{objects_of}
use Rattle.oil_reader.proofs.object_faults.has_kind.Given as goal

abbrev pub invariant-loop-object : goal.invariant-loop-object
invariant-loop-object l = has_kind l.kind (objects_of (drop l.object-index l.objects)) ≡ has_kind l.kind (objects_of l.objects)
