use Rattle.std.proofs.Common.{◌≡◌, map, take}
use Rattle.system_gen.proofs.object_names.names_in_order.Given as goal

abbrev pub invariant-loop-object : goal.invariant-loop-object
invariant-loop-object g l = l.names.items ≡ map g.T.Named.name_of (take l.object-index l.objects)
