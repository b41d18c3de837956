use Rattle.std.proofs.Common.{◌≡◌, map, take}
use Rattle.system_gen.proofs.generation.properties_of.Given as goal

abbrev pub invariant-loop-object : goal.invariant-loop-object
invariant-loop-object l = l.properties.items ≡ map (λ r. r.property) (take l.object-index l.objects)
