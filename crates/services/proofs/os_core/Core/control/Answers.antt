use Rattle.std.proofs.Common.{subst}
use Rattle.services.specs.AsDefined.{IsControlled}
use Rattle.services.specs.Objects.{Objects}
use Rattle.services.proofs.AsDefinedLemmas.{controlled_as_defined}
use Rattle.services.proofs.CallerLemmas.{controlled_caller}
use Rattle.services.proofs.StandsLemmas.{known_to_stand, stands_controlled}
use Rattle.services.proofs.os_core.Core.control.Goals as goal

pub invariant_of-self : goal.invariant_of-self
invariant_of-self g c =
    known_to_stand
    (stands_controlled c.self.inside.objects c.control.new.self c.control.ensures.system c.args.control.now c.self.invariant.stands
    c.control.ensures.kept)

pub returns : goal.returns
returns g c =
    let o : Objects = c.self.inside.objects in
    let n : Objects = c.control.new.self in
    let control = c.args.control.now in
    let kept = c.control.ensures.kept in
    subst (λ (k : Objects). IsControlled control k n) c.self.view_is
    (record {
      system = c.control.ensures.system;
      caller = controlled_caller o n control kept;
      kept = kept;
      defined = controlled_as_defined o n c.control.ensures.system control kept;
    })
