use Rattle.std.proofs.Common.{◌≡◌, map, take}
use Rattle.system_gen.specs.Generated.{resolved_routine}
use Rattle.system_gen.proofs.generation.routines_of.Given as goal

abbrev pub invariant-loop-object : goal.invariant-loop-object
invariant-loop-object l = l.routines.items ≡ map (resolved_routine l.resolver l.programs) (take l.object-index l.objects)
