use Rattle.std.proofs.Common.{take}
use Rattle.oil_reader.specs.Attributes.{Finds, SomeFault, BlockFault}
use Rattle.oil_reader.specs.Trees.{attributes_of}
use Rattle.oil_reader.proofs.object_faults.blocks_fault.Given as goal

abbrev pub invariant-loop-attribute : goal.invariant-loop-attribute
invariant-loop-attribute l = Finds (SomeFault (BlockFault l.allowed) (attributes_of (take l.attribute-index l.attributes))) l.found
