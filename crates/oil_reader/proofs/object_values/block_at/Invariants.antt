use Rattle.std.proofs.Common.{◌≡◌, drop}
use Rattle.oil_reader.specs.Meaning.{block_at}
use Rattle.oil_reader.specs.Trees.{attributes_of}
use Rattle.oil_reader.proofs.object_values.block_at.Given as goal

abbrev pub invariant-loop-attribute : goal.invariant-loop-attribute
invariant-loop-attribute l = block_at l.name (attributes_of (drop l.attribute-index l.attributes)) ≡ block_at l.name (attributes_of l.attributes)
