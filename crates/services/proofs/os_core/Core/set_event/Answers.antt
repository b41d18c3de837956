use Rattle.std.proofs.Common.{◌≡◌, ◌<◌, Some, false, length, sym, subst}
use Rattle.osek_base.specs.declared.instr.Service.{Service}
use Rattle.law_kept.specs.KeptService.{ByNobody}
use Rattle.law_kept.specs.Standing.{runner_waits}
use Rattle.services.specs.AsDefined.{HasActed}
use Rattle.services.specs.Objects.{Objects, kept_in}
use Rattle.services.proofs.AsDefinedLemmas.{set_as_defined}
use Rattle.services.proofs.StandsLemmas.{fit_where_stands, known_to_stand, stands_set}
use Rattle.services.proofs.os_core.Core.set_event.Goals as goal

pub set_event-requires-clause-fit : goal.set_event-requires-clause-fit
set_event-requires-clause-fit g c = fit_where_stands c.self.inside.objects c.self.invariant.stands

pub invariant_of-self : goal.invariant_of-self
invariant_of-self g c =
    known_to_stand
    (stands_set c.self.inside.objects c.set_event.new.self c.set_event.ensures.system c.args.task c.args.mask c.self.invariant.stands
    (subst (λ (k : Objects). c.args.task < length k.system.tasks) (sym c.self.view_is) c.requires.task)
    (subst (λ (k : Objects). runner_waits (kept_in k) ≡ false) (sym c.self.view_is) c.requires.ready)
    (c.set_event.ensures.kept ByNobody))

pub returns : goal.returns
returns g c =
    let n : Objects = c.set_event.new.self in
    subst (λ (k : Objects). HasActed (Service.SetEvent (Some c.args.task) c.args.mask) k n c.set_event.result) c.self.view_is
    (record {
      system = c.set_event.ensures.system;
      status = c.set_event.ensures.status ByNobody;
      kept = c.set_event.ensures.kept ByNobody;
      defined =
          set_as_defined c.self.inside.objects n c.set_event.ensures.system c.args.task c.args.mask c.set_event.result
          (subst (λ (k : Objects). c.args.task < length k.system.tasks) (sym c.self.view_is) c.requires.task)
          (subst (λ (k : Objects). runner_waits (kept_in k) ≡ false) (sym c.self.view_is) c.requires.ready)
          (c.set_event.ensures.status ByNobody) (c.set_event.ensures.kept ByNobody);
    })
