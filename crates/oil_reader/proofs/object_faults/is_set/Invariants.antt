use Rattle.std.proofs.Common.{◌≡◌, drop}
use Rattle.oil_reader.specs.Checks.{is_set}
use Rattle.oil_reader.specs.Trees.{settings_of}
use Rattle.oil_reader.proofs.object_faults.is_set.Given as goal

abbrev pub invariant-loop-setting : goal.invariant-loop-setting
invariant-loop-setting l = is_set (settings_of (drop l.setting-index l.settings)) l.attribute ≡ is_set (settings_of l.settings) l.attribute
