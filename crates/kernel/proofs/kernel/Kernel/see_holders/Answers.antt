use Rattle.std.proofs.Common.{◌∙◌, ap}
use Rattle.services.specs.Objects.{Objects, kept_in}
use Rattle.kernel.specs.Holders.{holders_in}
use Rattle.kernel.specs.Progress.{Progress, run_of}
use Rattle.seen_ticks.specs.Observed.{holders_seen}
use Rattle.kernel.proofs.SeenLemmas.{holders_told}
use Rattle.kernel.proofs.kernel.Kernel.see_holders.Goals as goal

pub returns : goal.returns
returns g c =
    let k = c.self.inside in
    let v = c.self.invariant in
    c.see_holders.ensures ∙ ap (λ (o : Objects). holders_in o.system (kept_in o)) c.objects.ensures
    ∙ holders_told g.B.Blockers.are_counted k.system.now v.proper k.mode k.arrivals k.machine v.come c.core.result.now c.core.ensures.system
    c.core.ensures.objects
    ∙ ap (λ (r : Progress). holders_seen r.system (run_of r).state) c.self.view_is
