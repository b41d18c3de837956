use Rattle.services.proofs.StandsLemmas.{stands_flagged}
use Rattle.services.proofs.os_core.Core.arrive.Goals as goal
use Rattle.std.proofs.Common.{◌≡◌, true, sym, subst, arith}
use Rattle.services.specs.Objects.{Objects, kept_in}
use Rattle.services.specs.Dispatched.{is_dispatched_in}

pub invariant_of-self : goal.invariant_of-self
invariant_of-self g c =
    record {
      stands = stands_flagged c.self.inside.objects c.arrive.new.self c.args.routine c.self.invariant.stands c.arrive.ensures;
      dispatched = λ known. subst (λ (o : Objects). is_dispatched_in o.system (kept_in o) ≡ true) (sym c.arrive.ensures) (c.self.invariant.dispatched known);
      settled = λ known. absurd (grind arith);
      both = λ known. absurd (grind arith);
    }
