use Rattle.oil_reader.specs.Attributes.{Finds, ScopeFault, SomeFault, BlockFault, object_scope}
use Rattle.oil_reader.specs.Table.{attributes_of}
use Rattle.oil_reader.specs.Trees.{object_of}
use Rattle.oil_reader.proofs.Firsts.{Finds_both}
use Rattle.oil_reader.proofs.object_faults.object_fault.Goals as goal

pub returns : goal.returns
returns c =
    let o = object_of c.args.object.now in
    let one : Finds (ScopeFault (object_scope o)) c.in_ok-found.found = rw (c.attributes_of-allowed.ensures, c.deref-2.ensures.value, c.in_ok-settings.ensures, c.deref.ensures.value) at c.in_ok-found.ensures in
    let two : Finds (SomeFault (BlockFault (attributes_of o.kind)) o.attributes) c.in_ok-inner.inner = rw (c.attributes_of-allowed.ensures, c.deref-3.ensures.value) at c.in_ok-inner.ensures in
    rw c.earlier_of.ensures (Finds_both (ScopeFault (object_scope o)) (SomeFault (BlockFault (attributes_of o.kind)) o.attributes) c.in_ok-found.found c.in_ok-inner.inner one two)
