use Rattle.std.proofs.Common.{◌≡◌, true, sym, subst, inl, inr}
use Rattle.std.proofs.lemmas.Bool.{cases_Bool}
use Rattle.services.specs.Dispatched.{IsCore, is_dispatched_in}
use Rattle.services.specs.Objects.{Objects, kept_in}
use Rattle.services.specs.Quiet.{IsSettled}
use Rattle.services.proofs.StandsLemmas.{stands_passed}
use Rattle.services.proofs.os_core.Core.begin_quiet.Goals as goal

pub invariant_of-self : goal.invariant_of-self
invariant_of-self g c =
    let o : Objects = c.self.inside.objects in
    elim (cases_Bool c.begin_quiet.result) [
      | inl begins ↦
          let after = (c.begin_quiet.ensures.begins begins).after in
          record {
            stands = stands_passed o c.begin_quiet.new.self 1 c.self.invariant.stands after;
            dispatched = λ known. subst (λ (x : Objects). is_dispatched_in x.system (kept_in x) ≡ true) (sym after) (c.self.invariant.dispatched known);
            settled = λ known. subst (λ (x : Objects). IsSettled x.system (kept_in x)) (sym after)
                (record { on = (c.self.invariant.settled known).on; runs = (c.self.invariant.settled known).runs; no_routine = (c.self.invariant.settled known).no_routine; none_pending = (c.self.invariant.settled known).none_pending });
            both = c.self.invariant.both;
          }
      | inr stays ↦
          subst (λ (x : Objects). IsCore x c.self.inside.is_dispatched c.self.inside.is_settled) (sym (c.begin_quiet.ensures.stays stays)) c.self.invariant
    ]
