use Rattle.std.proofs.Common.{◌≡◌, ◌∙◌, ap}
use Rattle.law_kept.specs.KeptService.{task_state_in}
use Rattle.law_kept.specs.Seen.{priority_in}
use Rattle.seen_ticks.specs.declared.task_at.TaskAt.{TaskAt}
use Rattle.seen_ticks.specs.Told.{task_at, task_at_in}
use Rattle.services.specs.Objects.{Objects, kept_in}
use Rattle.kernel.specs.Progress.{Progress, run_of}
use Rattle.kernel.proofs.SeenLemmas.{task_seen}
use Rattle.kernel.proofs.kernel.Kernel.task_at.Goals as goal

pub returns : goal.returns
returns g c =
    let k = c.self.inside in
    let v = c.self.invariant in
    let t = c.args.task in
    let o : Objects = c.core-core.result.now in
    let at : TaskAt = task_at_in o.system (kept_in o) t in
    let state : c.task_state.result ≡ at.state =
    c.task_state.ensures ∙ ap (λ (o : Objects). task_state_in (kept_in o) t) c.objects.ensures in
    let priority : c.dynamic_priority.result ≡ at.priority =
    c.dynamic_priority.ensures ∙ ap (λ (o : Objects). priority_in o.system t ((kept_in o).slots t)) c.objects-2.ensures in
    let jobs : c.job_count.result ≡ at.jobs = c.job_count.ensures.value in
    (λ i. record { state = state i; priority = priority i; jobs = jobs i })
    ∙ task_seen g.B.Blockers.are_counted k.system.now v.proper k.mode k.arrivals k.machine v.come o c.core-core.ensures.system
    c.core-core.ensures.objects t
    ∙ ap (λ (r : Progress). task_at r.system (run_of r).state t) c.self.view_is
