use Rattle.std.proofs.Common.{Option, sym, subst, option_map}
use Rattle.oil_reader.specs.declared.syntax.Block as code_block
use Rattle.oil_reader.specs.Attributes.{Finds, ScopeFault, BlockFault, block_scope}
use Rattle.oil_reader.specs.Trees.{attribute_of, block_of}
use Rattle.oil_reader.proofs.Firsts.{ok_map}
use Rattle.oil_reader.proofs.Listed.{block_none, block_some}
use Rattle.oil_reader.proofs.object_faults.block_fault.Goals as goal

pub returns-in_default : goal.returns-in_default
returns-in_default c = block_none c.args.allowed.now (attribute_of c.args.attribute.now) (sym c.in_default.ensures)

pub returns-in-Some-block : goal.returns-in-Some-block
returns-in-Some-block c =
    let a = attribute_of c.args.attribute.now in
    ok_map _ (Finds (BlockFault c.args.allowed.now a))
    (λ found h. block_some c.args.allowed.now a c.in-Some.name found (sym c.in-Some.ensures)
    (subst (λ (b : Option code_block.Block). Finds (ScopeFault (block_scope c.in-Some.name a (option_map block_of b))) found) (sym c.in-Some-block.is)
    (rw (c.block-inner.ensures, c.deref.ensures.value) at h))) c.scope_fault.result c.scope_fault.ensures

pub returns-in-None : goal.returns-in-None
returns-in-None c =
    let a = attribute_of c.args.attribute.now in
    ok_map _ (Finds (BlockFault c.args.allowed.now a))
    (λ found h. block_some c.args.allowed.now a c.in-Some.name found (sym c.in-Some.ensures)
    (subst (λ (b : Option code_block.Block). Finds (ScopeFault (block_scope c.in-Some.name a (option_map block_of b))) found) (sym c.in-None.is)
    (rw c.block-inner.ensures at h))) c.scope_fault-in-None.result c.scope_fault-in-None.ensures
