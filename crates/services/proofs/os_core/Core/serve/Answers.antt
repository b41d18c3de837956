use Rattle.std.proofs.Common.{◌&&◌, sym, ◌∙◌, ap, ap₂, subst}
use Rattle.osek_base.proofs.PlaceLemmas.{and_split}
use Rattle.osek_base.specs.Types.{ServiceCall}
use Rattle.law_kept.specs.Standing.{MayServe}
use Rattle.services.specs.AsDefined.{IsServed}
use Rattle.services.specs.Objects.{Objects, kept_in}
use Rattle.services.specs.Steps.{answer_of}
use Rattle.services.specs.Calls.{IsExecuting, IsKnown, call_of, context_in}
use Rattle.services.proofs.AsDefinedLemmas.{served_as_defined}
use Rattle.services.proofs.CallerLemmas.{served_caller, there}
use Rattle.machine.specs.Packed.{instr_of, service_of}
use Rattle.services.proofs.ServedLemmas.{may_dispatch_at, served_dispatched, served_settled}
use Rattle.services.proofs.StandsLemmas.{fit_where_stands, stands_served}
use Rattle.services.proofs.os_core.Core.serve.Goals as goal

pub serve_program-status-requires-clause-fit : goal.serve_program-status-requires-clause-fit
serve_program-status-requires-clause-fit g c = fit_where_stands c.self.inside.objects c.self.invariant.stands

pub serve_program-status-requires-clause-who : goal.serve_program-status-requires-clause-who
serve_program-status-requires-clause-who g c =
    there c.self.inside.objects c.args.owner
    (subst (λ (k : Objects). IsExecuting (kept_in k) c.args.owner) (sym c.self.view_is) c.requires.who)

pub serve_program-status-requires-clause-known : goal.serve_program-status-requires-clause-known
serve_program-status-requires-clause-known g c =
    subst (λ (k : Objects). IsKnown k.system (call_of c.args.packed c.args.owner k)) (sym c.self.view_is) c.requires.known

pub stays_known-stays-requires-clause-fit : goal.stays_known-stays-requires-clause-fit
stays_known-stays-requires-clause-fit g c =
    let o : Objects = c.self.inside.objects in
    let r = c.serve_program-status in
    fit_where_stands r.new.self
    (stands_served o r.new.self r.ensures.system (call_of c.args.packed c.args.owner o) c.self.invariant.stands
    (subst (λ (k : Objects). IsKnown k.system (call_of c.args.packed c.args.owner k)) (sym c.self.view_is) c.requires.known)
    (subst (λ (k : Objects). MayServe k.system (kept_in k)) (sym c.self.view_is) c.requires.serves) r.ensures.kept)

pub invariant_of-self : goal.invariant_of-self
invariant_of-self g c =
    let o : Objects = c.self.inside.objects in
    let call : ServiceCall = call_of c.args.packed c.args.owner o in
    let r = c.serve_program-status in
    let asked : ServiceCall = service_of (instr_of c.args.packed) in
    let same = may_dispatch_at (context_in (kept_in o) c.args.owner) asked in
    record {
      stands =
          stands_served o r.new.self r.ensures.system call c.self.invariant.stands
          (subst (λ (k : Objects). IsKnown k.system (call_of c.args.packed c.args.owner k)) (sym c.self.view_is) c.requires.known)
          (subst (λ (k : Objects). MayServe k.system (kept_in k)) (sym c.self.view_is) c.requires.serves) r.ensures.kept;
      dispatched = λ known.
          served_dispatched o r.new.self call asked c.self.inside.is_dispatched (answer_of r.result r.new.results) r.ensures same
          (ap (λ b. c.self.inside.is_dispatched && b) (sym c.stays_known-stays.ensures) ∙ sym c.keep_where.ensures ∙ known) c.self.invariant.dispatched;
      settled = λ known.
          served_settled o r.new.self call asked c.self.inside.is_settled (answer_of r.result r.new.results) r.ensures same
          (ap (λ b. c.self.inside.is_settled && b) (sym c.stays_known-stays.ensures) ∙ sym c.keep_where-2.ensures ∙ known) c.self.invariant.settled;
      both = λ known.
          let was = and_split c.self.inside.is_settled c.stays_known-stays.result (sym c.keep_where-2.ensures ∙ known) in
          c.keep_where.ensures ∙ ap₂ (λ a b. a && b) (c.self.invariant.both was.0) was.1;
    }

pub returns : goal.returns
returns g c =
    let o : Objects = c.self.inside.objects in
    let call : ServiceCall = call_of c.args.packed c.args.owner o in
    let r = c.serve_program-status in
    subst
    (λ (k : Objects). IsServed (call_of c.args.packed c.args.owner k) k r.new.self (answer_of r.result r.new.results))
    c.self.view_is
    (record {
      system = r.ensures.system;
      caller = served_caller o r.new.self call r.ensures.kept;
      status = r.ensures.status;
      results = r.ensures.results;
      kept = r.ensures.kept;
      defined =
          served_as_defined o r.new.self r.ensures.system call (answer_of r.result r.new.results)
          (subst (λ (k : Objects). IsKnown k.system (call_of c.args.packed c.args.owner k)) (sym c.self.view_is) c.requires.known)
          (subst (λ (k : Objects). MayServe k.system (kept_in k)) (sym c.self.view_is) c.requires.serves) r.ensures;
    })
