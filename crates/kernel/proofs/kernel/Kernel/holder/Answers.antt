use Rattle.std.proofs.Common.{◌<◌, length, ◌∙◌, ap, subst}
use Rattle.std.specs.Prelude.{IfSome}
use Rattle.osek_base.specs.System.{System}
use Rattle.services.specs.Objects.{Objects, kept_in}
use Rattle.law_kept.specs.Seen.{holder_in}
use Rattle.kernel.specs.Progress.{Progress, run_of}
use Rattle.seen_ticks.specs.Shown.{holder}
use Rattle.kernel.proofs.SeenLemmas.{holder_seen}
use Rattle.kernel.proofs.kernel.Kernel.holder.Goals as goal

pub returns : goal.returns
returns g c =
    let k = c.self.inside in
    let v = c.self.invariant in
    record {
      value =
          c.holder.ensures.value ∙ ap (λ (o : Objects). holder_in o.system (kept_in o) c.args.resource.now) c.objects.ensures
          ∙ holder_seen g.B.Blockers.are_counted k.system.now v.proper k.mode k.arrivals k.machine v.come c.core.result.now c.core.ensures.system
          c.core.ensures.objects c.args.resource.now
          ∙ ap (λ (r : Progress). holder r.system (run_of r).state c.args.resource.now) c.self.view_is;
      known =
          subst (λ (r : Progress). IfSome c.holder.result (λ t. t < length r.system.tasks)) c.self.view_is
          (subst (λ (T : System). IfSome c.holder.result (λ t. t < length T.tasks)) (ap (λ (o : Objects). o.system) c.objects.ensures ∙ c.core.ensures.system ∙ v.come.at.system) c.holder.ensures.known);
    }
