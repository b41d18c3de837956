use Rattle.std.proofs.Common.{length, ◌∙◌, ap}
use Rattle.osek_base.specs.State.{jobs_of}
use Rattle.kernel.specs.Progress.{Progress, run_of}
use Rattle.kernel.proofs.SeenLemmas.{count_seen}
use Rattle.kernel.proofs.kernel.Kernel.job_count.Goals as goal

pub returns : goal.returns
returns g c =
    let k = c.self.inside in
    let v = c.self.invariant in
    c.job_count.ensures.value
    ∙ count_seen g.B.Blockers.are_counted k.system.now v.proper k.mode k.arrivals k.machine v.come c.core.result.now c.core.ensures.system
    c.core.ensures.objects c.args.task
    ∙ ap (λ (r : Progress). length (jobs_of c.args.task (run_of r).state.jobs)) c.self.view_is
