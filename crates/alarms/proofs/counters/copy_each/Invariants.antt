use Rattle.std.proofs.Common.{◌≡◌, length, take}
use Rattle.alarms.proofs.counters.copy_each.Given as goal

-- the first ones are copied
abbrev pub invariant-loop-number : goal.invariant-loop-number
invariant-loop-number l = (take l.number l.counters ≡ take l.number l.others) × (length l.counters ≡ length l.others)
