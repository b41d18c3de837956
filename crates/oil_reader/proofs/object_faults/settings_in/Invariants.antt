use Rattle.std.proofs.Common.{◌≡◌, take, map}
use Rattle.oil_reader.specs.Trees.{settings_of, attributes_of}
use Rattle.oil_reader.proofs.object_faults.settings_in.Given as goal

abbrev pub invariant-loop-attribute : goal.invariant-loop-attribute
invariant-loop-attribute l = settings_of l.settings.items ≡ map (λ a. a.setting) (attributes_of (take l.attribute-index l.attributes))
