use Rattle.oil_reader.specs.Attributes.{AttributeFault, ReservedFault}
use Rattle.oil_reader.specs.Trees.{object_of}
use Rattle.oil_reader.proofs.Firsts.{Finds_both}
use Rattle.oil_reader.proofs.object_faults.one_object_fault.Goals as goal

pub returns : goal.returns
returns c =
    let o = object_of c.args.object.now in
    rw c.earlier_of.ensures (Finds_both (AttributeFault o) (ReservedFault o) c.in_ok-found.found c.reserved_fault.result c.in_ok-found.ensures c.reserved_fault.ensures)
