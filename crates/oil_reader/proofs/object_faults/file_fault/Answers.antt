use Rattle.oil_reader.specs.Attributes.{ObjectFault, SomeFault, OneObjectFault}
use Rattle.oil_reader.specs.Trees.{file_of}
use Rattle.oil_reader.proofs.Firsts.{Finds_both}
use Rattle.oil_reader.proofs.object_faults.file_fault.Goals as goal

pub returns : goal.returns
returns c =
    let f = file_of c.args.tree.now in
    rw c.earlier_of.ensures (Finds_both (ObjectFault f) (SomeFault OneObjectFault f.objects) c.in_ok-found.found c.in_ok-objects_fault.field-0 c.in_ok-found.ensures (rw c.deref.ensures.value at c.in_ok-objects_fault.ensures))
