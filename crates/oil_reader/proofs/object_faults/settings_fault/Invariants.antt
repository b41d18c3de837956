use Rattle.std.proofs.Common.{◌≡◌, [], None, take, drop}
use Rattle.oil_reader.specs.Order.{first_of_all}
use Rattle.oil_reader.specs.Checks.{settings_faults}
use Rattle.oil_reader.specs.Trees.{settings_of}
use Rattle.oil_reader.proofs.Standing.{AreNamesOf, AreValuesOf}
use Rattle.oil_reader.proofs.object_faults.settings_fault.Given as goal

abbrev pub invariant-loop-setting : goal.invariant-loop-setting
invariant-loop-setting l = record {
  named : AreNamesOf l.names (settings_of (take l.setting-index l.settings));
  valued : AreValuesOf l.values (settings_of (take l.setting-index l.settings));
  same : first_of_all l.found (settings_faults l.allowed (settings_of (take l.setting-index l.settings)) (settings_of (drop l.setting-index l.settings))) ≡ first_of_all None (settings_faults l.allowed [] (settings_of l.settings));
}
