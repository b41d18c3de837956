use Rattle.std.proofs.Common.{◌≡◌, ◌++◌, drop}
use Rattle.oil_reader.specs.Meaning.{names_at}
use Rattle.oil_reader.specs.Trees.{settings_of}
use Rattle.oil_reader.proofs.object_values.names_at.Given as goal

abbrev pub invariant-loop-setting : goal.invariant-loop-setting
invariant-loop-setting l = l.names.items ++ names_at l.attribute (settings_of (drop l.setting-index l.settings)) ≡ names_at l.attribute (settings_of l.settings)
