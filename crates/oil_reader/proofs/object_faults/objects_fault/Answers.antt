use Rattle.oil_reader.specs.Attributes.{OneObjectFault}
use Rattle.oil_reader.specs.Trees.{object_of}
use Rattle.oil_reader.proofs.Firsts.{some_at, some_done}
use Rattle.oil_reader.proofs.object_faults.objects_fault.Goals as goal

pub loop-object-preserved : goal.loop-object-preserved
loop-object-preserved c = some_at object_of OneObjectFault c.args.objects.now c.loop-object.object-index c.object-item.result c.loop-object.found c.in_ok-one_object_fault.field-0 c.earlier_of-found.result c.loop-object-test.true c.object-item.is c.earlier_of-found.ensures c.loop-object.invariant c.in_ok-one_object_fault.ensures

pub returns : goal.returns
returns c = some_done object_of OneObjectFault c.args.objects.now c.loop-object.object-index c.loop-object.found c.loop-object-test.false c.loop-object.invariant
