use Rattle.std.proofs.Common.{take}
use Rattle.oil_reader.specs.Attributes.{Finds, SomeFault, OneObjectFault}
use Rattle.oil_reader.specs.Trees.{objects_of}
use Rattle.oil_reader.proofs.object_faults.objects_fault.Given as goal

abbrev pub invariant-loop-object : goal.invariant-loop-object
invariant-loop-object l = Finds (SomeFault OneObjectFault (objects_of (take l.object-index l.objects))) l.found
