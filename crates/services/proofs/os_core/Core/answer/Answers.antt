use Rattle.std.proofs.Common.{◌+◌, ◌<◌, sym, subst}
use Rattle.osek_base.specs.Tick.{answered}
use Rattle.law_runs.proofs.Formed.{IsPlaced}
use Rattle.law_kept.specs.KeptTick.{with_context_in}
use Rattle.services.specs.Objects.{Objects, kept_in}
use Rattle.services.specs.Calls.{IsThere, MayGoOn, caller_as, context_in}
use Rattle.services.proofs.DispatchedLemmas.{gone_on_dispatched, still_dispatched}
use Rattle.services.proofs.StandsLemmas.{stands_gone_on_there}
use Rattle.services.proofs.SteadyLemmas.{gone_on_settled, still_settled}
use Rattle.services.proofs.os_core.Core.answer.Goals as goal

pub answer-requires-clause-room : goal.answer-requires-clause-room
answer-requires-clause-room g c =
    subst (λ (k : Objects). IsThere k c.args.owner → (context_in (kept_in k) c.args.owner).place + 1 < 1024) (sym c.self.view_is) c.requires.room

pub invariant_of-self : goal.invariant_of-self
invariant_of-self g c =
    let o : Objects = c.self.inside.objects in
    let who = c.args.owner in
    let x = answered c.args.status c.args.results.now (context_in (kept_in o) who) in
    record {
      stands =
          stands_gone_on_there o c.answer.new.self c.answer.ensures.system who x c.self.invariant.stands
          (subst (λ (k : Objects). MayGoOn k who) (sym c.self.view_is) c.requires.who)
          (subst (λ (k : Objects). IsThere k who → IsPlaced k.system who (answered c.args.status c.args.results.now (context_in (kept_in k) who))) (sym c.self.view_is) c.requires.placed)
          c.answer.ensures.kept;
      dispatched = λ known.
          still_dispatched o c.answer.new.self (with_context_in (caller_as who) x) c.answer.ensures.system c.answer.ensures.kept
          (gone_on_dispatched o.system (kept_in o) (caller_as who) x) (c.self.invariant.dispatched known);
      settled = λ known.
          still_settled o c.answer.new.self (with_context_in (caller_as who) x) c.answer.ensures.system c.answer.ensures.kept
          (gone_on_settled o.system (kept_in o) (c.self.invariant.settled known) (caller_as who) x);
      both = c.self.invariant.both;
    }
