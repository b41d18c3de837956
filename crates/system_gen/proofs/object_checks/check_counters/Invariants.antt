use Rattle.std.proofs.Common.{◌≡◌, drop}
use Rattle.system_gen.specs.Checks.{counter_fault}
use Rattle.system_gen.proofs.object_checks.check_counters.Given as goal

abbrev pub invariant-loop-object : goal.invariant-loop-object
invariant-loop-object l = counter_fault (drop l.object-index l.counters) ≡ counter_fault l.counters
