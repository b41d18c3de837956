use Rattle.services.proofs.StandsLemmas.{stands_gone_on}
use Rattle.services.proofs.SteadyLemmas.{gone_on_settled, still_settled}
use Rattle.services.proofs.os_core.Core.go_on.Goals as goal
use Rattle.std.proofs.Common.{sym, subst}
use Rattle.law_runs.proofs.Formed.{IsPlaced}
use Rattle.services.specs.Objects.{Objects, kept_in}
use Rattle.services.specs.Calls.{MayGoOn, caller_as}
use Rattle.law_kept.specs.KeptTick.{with_context_in}
use Rattle.services.proofs.DispatchedLemmas.{gone_on_dispatched, still_dispatched}

pub invariant_of-self : goal.invariant_of-self
invariant_of-self g c =
    let o : Objects = c.self.inside.objects in
    record {
      stands =
          stands_gone_on o c.go_on.new.self c.go_on.ensures.system c.args.owner c.args.cpu c.self.invariant.stands
          (subst (λ (k : Objects). MayGoOn k c.args.owner) (sym c.self.view_is) c.requires.who)
          (subst (λ (k : Objects). IsPlaced k.system c.args.owner c.args.cpu) (sym c.self.view_is) c.requires.placed) c.go_on.ensures.kept;
      dispatched = λ known.
          still_dispatched o c.go_on.new.self (with_context_in (caller_as c.args.owner) c.args.cpu) c.go_on.ensures.system c.go_on.ensures.kept
          (gone_on_dispatched o.system (kept_in o) (caller_as c.args.owner) c.args.cpu) (c.self.invariant.dispatched known);
      settled = λ known.
          still_settled o c.go_on.new.self (with_context_in (caller_as c.args.owner) c.args.cpu) c.go_on.ensures.system c.go_on.ensures.kept
          (gone_on_settled o.system (kept_in o) (c.self.invariant.settled known) (caller_as c.args.owner) c.args.cpu);
      both = c.self.invariant.both;
    }
