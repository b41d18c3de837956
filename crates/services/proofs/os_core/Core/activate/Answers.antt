use Rattle.std.proofs.Common.{◌<◌, Some, length, sym, subst}
use Rattle.osek_base.specs.declared.instr.Service.{Service}
use Rattle.law_kept.specs.KeptService.{ByNobody}
use Rattle.services.specs.AsDefined.{HasActed}
use Rattle.services.specs.Objects.{Objects}
use Rattle.services.proofs.AsDefinedLemmas.{activated_as_defined}
use Rattle.services.proofs.StandsLemmas.{fit_where_stands, known_to_stand, stands_activated}
use Rattle.services.proofs.os_core.Core.activate.Goals as goal

pub activate-requires-clause-fit : goal.activate-requires-clause-fit
activate-requires-clause-fit g c = fit_where_stands c.self.inside.objects c.self.invariant.stands

pub invariant_of-self : goal.invariant_of-self
invariant_of-self g c =
    known_to_stand
    (stands_activated c.self.inside.objects c.activate.new.self c.activate.ensures.system c.args.task c.self.invariant.stands
    (subst (λ (k : Objects). c.args.task < length k.system.tasks) (sym c.self.view_is) c.requires)
    (c.activate.ensures.kept ByNobody))

pub returns : goal.returns
returns g c =
    let n : Objects = c.activate.new.self in
    subst (λ (k : Objects). HasActed (Service.ActivateTask (Some c.args.task)) k n c.activate.result) c.self.view_is
    (record {
      system = c.activate.ensures.system;
      status = c.activate.ensures.status ByNobody;
      kept = c.activate.ensures.kept ByNobody;
      defined =
          activated_as_defined c.self.inside.objects n c.activate.ensures.system c.args.task c.activate.result
          (subst (λ (k : Objects). c.args.task < length k.system.tasks) (sym c.self.view_is) c.requires)
          (c.activate.ensures.status ByNobody) (c.activate.ensures.kept ByNobody);
    })
