use Rattle.std.proofs.Common.{◌≡◌, map, take}
use Rattle.osek_base.specs.System.{Alarm}
use Rattle.alarms.proofs.counters.counter_numbers.Given as goal

abbrev pub invariant-loop-place : goal.invariant-loop-place
invariant-loop-place l = l.numbers.items ≡ map (λ (a : Alarm). a.counter) (take l.place l.alarms)
