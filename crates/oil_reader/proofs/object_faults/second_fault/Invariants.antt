use Rattle.std.proofs.Common.{◌≡◌, [], None, take, drop}
use Rattle.oil_reader.specs.Order.{first_of_all}
use Rattle.oil_reader.specs.Checks.{seconds}
use Rattle.oil_reader.specs.Trees.{objects_of}
use Rattle.oil_reader.proofs.Keys.{AreKeysOf}
use Rattle.oil_reader.proofs.object_faults.second_fault.Given as goal

abbrev pub invariant-loop-object : goal.invariant-loop-object
invariant-loop-object l = record {
  keys : AreKeysOf l.seen (objects_of (take l.object-index l.objects));
  same : first_of_all l.found (seconds (objects_of (take l.object-index l.objects)) (objects_of (drop l.object-index l.objects))) ≡ first_of_all None (seconds [] (objects_of l.objects));
}
