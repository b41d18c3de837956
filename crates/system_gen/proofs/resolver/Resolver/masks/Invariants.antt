use Rattle.std.proofs.Common.{◌≡◌, map, take}
use Rattle.system_gen.specs.Generated.{mask_of}
use Rattle.system_gen.proofs.resolver.Resolver.masks.Given as goal

abbrev pub invariant-loop-name : goal.invariant-loop-name
invariant-loop-name l = l.masks.items ≡ map (mask_of l.self) (take l.name-index l.names)
