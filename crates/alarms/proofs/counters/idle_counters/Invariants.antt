use Rattle.std.proofs.Common.{◌≡◌, map, take}
use Rattle.alarms.specs.Counters.{idle}
use Rattle.alarms.proofs.counters.idle_counters.Given as goal

abbrev pub invariant-loop-number : goal.invariant-loop-number
invariant-loop-number l = l.counters.items ≡ map idle (take l.number l.declared)
