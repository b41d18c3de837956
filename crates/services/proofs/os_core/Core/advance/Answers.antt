use Rattle.services.proofs.StandsLemmas.{stands_advanced}
use Rattle.services.specs.Quiet.{IsSettled}
use Rattle.services.proofs.os_core.Core.advance.Goals as goal
use Rattle.std.proofs.Common.{◌≡◌, true, sym, subst}
use Rattle.services.specs.Objects.{Objects, kept_in}
use Rattle.services.specs.Dispatched.{is_dispatched_in}

pub invariant_of-self : goal.invariant_of-self
invariant_of-self g c =
    record {
      stands = stands_advanced c.self.inside.objects c.advance.new.self c.self.invariant.stands c.advance.ensures.objects;
      dispatched = λ known. subst (λ (o : Objects). is_dispatched_in o.system (kept_in o) ≡ true) (sym c.advance.ensures.objects) (c.self.invariant.dispatched known);
      settled = λ known.
          subst (λ (o : Objects). IsSettled o.system (kept_in o)) (sym c.advance.ensures.objects)
          (record { on = (c.self.invariant.settled known).on; runs = (c.self.invariant.settled known).runs; no_routine = (c.self.invariant.settled known).no_routine; none_pending = (c.self.invariant.settled known).none_pending });
      both = c.self.invariant.both;
    }
