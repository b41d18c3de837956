use Rattle.std.proofs.Common.{◌≡◌, map, take}
use Rattle.system_gen.specs.DeclaredNames.{number}
use Rattle.system_gen.proofs.resolver.Resolver.resources.Given as goal

abbrev pub invariant-loop-name : goal.invariant-loop-name
invariant-loop-name l = l.resources.items ≡ map (number l.self.declared.resources) (take l.name-index l.names)
