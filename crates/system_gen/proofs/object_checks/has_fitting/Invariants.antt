use Rattle.std.proofs.Common.{◌≡◌, drop}
use Rattle.std.specs.List.{list_any}
use Rattle.system_gen.specs.Checks.{fits_on}
use Rattle.system_gen.proofs.object_checks.has_fitting.Given as goal

abbrev pub invariant-loop-object : goal.invariant-loop-object
invariant-loop-object l = list_any (fits_on l.name l.start) (drop l.object-index l.counters) ≡ list_any (fits_on l.name l.start) l.counters
