use Rattle.std.proofs.Common.{◌≡◌, map, take}
use Rattle.system_gen.specs.Generated.{resolved_alarm}
use Rattle.system_gen.proofs.generation.alarms_of.Given as goal

abbrev pub invariant-loop-object : goal.invariant-loop-object
invariant-loop-object l = l.alarms.items ≡ map (resolved_alarm l.resolver) (take l.object-index l.objects)
