use Rattle.oil_reader.specs.Attributes.{BlockFault}
use Rattle.oil_reader.specs.Trees.{attribute_of}
use Rattle.oil_reader.proofs.Firsts.{some_at, some_done}
use Rattle.oil_reader.proofs.object_faults.blocks_fault.Goals as goal

pub loop-attribute-preserved : goal.loop-attribute-preserved
loop-attribute-preserved c = some_at attribute_of (BlockFault c.args.allowed.now) c.args.attributes.now c.loop-attribute.attribute-index c.attribute-item.result c.loop-attribute.found c.in_ok-inner.inner c.earlier_of-found.result c.loop-attribute-test.true c.attribute-item.is c.earlier_of-found.ensures c.loop-attribute.invariant c.in_ok-inner.ensures

pub returns : goal.returns
returns c = some_done attribute_of (BlockFault c.args.allowed.now) c.args.attributes.now c.loop-attribute.attribute-index c.loop-attribute.found c.loop-attribute-test.false c.loop-attribute.invariant
