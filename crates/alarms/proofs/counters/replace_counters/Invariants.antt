use Rattle.std.proofs.Common.{◌≡◌, take}
use Rattle.alarms.proofs.counters.replace_counters.Given as goal

abbrev pub invariant-loop-number : goal.invariant-loop-number
invariant-loop-number l = l.counters.items ≡ take l.number l.others
