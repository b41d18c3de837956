use Rattle.std.proofs.Common.{◌≡◌, drop}
use Rattle.system_gen.specs.Generated.{with_masks, union}
use Rattle.system_gen.proofs.resolver.Resolver.union.Given as goal

abbrev pub invariant-loop-name : goal.invariant-loop-name
invariant-loop-name l = with_masks l.self l.bits (drop l.name-index l.events) ≡ union l.self l.events
