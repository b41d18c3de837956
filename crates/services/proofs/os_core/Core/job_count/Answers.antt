use Rattle.std.proofs.Common.{◌<◌, ◌∙◌, ap, length, subst, sym, arith}
use Rattle.law_kept.specs.Kept.{Slot}
use Rattle.services.specs.Objects.{Objects}
use Rattle.services.proofs.StandsLemmas.{few_jobs}
use Rattle.services.proofs.os_core.Core.job_count.Goals as goal

pub returns-clause-few : goal.returns-clause-few
returns-clause-few g c =
    let o : Objects = c.self.inside.objects in
    let few = few_jobs o c.self.invariant.stands c.args.task (subst (λ (x : Objects). c.args.task < length x.system.tasks) (sym c.self.view_is) c.requires) in
    let count = c.count.ensures.value ∙ ap (λ (a : Slot). a.count) c.slot.ensures in
    omega (arith, few, count)
