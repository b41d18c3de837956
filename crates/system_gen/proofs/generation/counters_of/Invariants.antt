use Rattle.std.proofs.Common.{◌≡◌, map, take}
use Rattle.system_gen.proofs.generation.counters_of.Given as goal

abbrev pub invariant-loop-object : goal.invariant-loop-object
invariant-loop-object l = l.counters.items ≡ map (λ c. c.counter) (take l.object-index l.objects)
