use Rattle.std.proofs.Common.{sym, subst}
use Rattle.law_runs.proofs.Formed.{IsPlaced}
use Rattle.law_kept.specs.KeptTick.{with_context_in}
use Rattle.services.specs.Objects.{Objects, kept_in}
use Rattle.services.specs.Calls.{IsExecuting, caller_as, context_in}
use Rattle.services.specs.PlainSteps.{IsPlainAt, plain_context}
use Rattle.services.proofs.CallerLemmas.{there, there_goes_on}
use Rattle.services.proofs.DispatchedLemmas.{gone_on_dispatched, still_dispatched}
use Rattle.services.proofs.StandsLemmas.{stands_gone_on}
use Rattle.services.proofs.SteadyLemmas.{gone_on_settled, still_settled}
use Rattle.services.proofs.os_core.Core.exec_packed.Goals as goal

pub exec_packed-requires-clause-who : goal.exec_packed-requires-clause-who
exec_packed-requires-clause-who g c =
    there c.self.inside.objects c.args.owner
    (subst (λ (k : Objects). IsExecuting (kept_in k) c.args.owner) (sym c.self.view_is) c.requires.who)

pub exec_packed-requires-clause-plain : goal.exec_packed-requires-clause-plain
exec_packed-requires-clause-plain g c =
    subst (λ (k : Objects). IsPlainAt c.args.packed (context_in (kept_in k) c.args.owner)) (sym c.self.view_is) c.requires.plain

pub invariant_of-self : goal.invariant_of-self
invariant_of-self g c =
    let o : Objects = c.self.inside.objects in
    let who = c.args.owner in
    let x = plain_context c.args.packed (context_in (kept_in o) who) c.args.windows.now who in
    record {
      stands =
          stands_gone_on o c.exec_packed.new.self c.exec_packed.ensures.system who x c.self.invariant.stands
          (there_goes_on o who (subst (λ (k : Objects). IsExecuting (kept_in k) who) (sym c.self.view_is) c.requires.who))
          (subst (λ (k : Objects). IsPlaced k.system who (plain_context c.args.packed (context_in (kept_in k) who) c.args.windows.now who)) (sym c.self.view_is) c.requires.placed)
          c.exec_packed.ensures.kept;
      dispatched = λ known.
          still_dispatched o c.exec_packed.new.self (with_context_in (caller_as who) x) c.exec_packed.ensures.system c.exec_packed.ensures.kept
          (gone_on_dispatched o.system (kept_in o) (caller_as who) x) (c.self.invariant.dispatched known);
      settled = λ known.
          still_settled o c.exec_packed.new.self (with_context_in (caller_as who) x) c.exec_packed.ensures.system c.exec_packed.ensures.kept
          (gone_on_settled o.system (kept_in o) (c.self.invariant.settled known) (caller_as who) x);
      both = c.self.invariant.both;
    }
