use Rattle.std.proofs.Common.{◌≡◌, drop}
use Rattle.oil_reader.specs.Meaning.{value_at}
use Rattle.oil_reader.specs.Trees.{settings_of}
use Rattle.oil_reader.proofs.object_values.value_at.Given as goal

abbrev pub invariant-loop-first : goal.invariant-loop-first
invariant-loop-first l = value_at l.attribute (settings_of (drop l.first-index l.settings)) ≡ value_at l.attribute (settings_of l.settings)
