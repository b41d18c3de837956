use Rattle.std.proofs.Common.{◌∙◌, ap}
use Rattle.law_kept.specs.KeptService.{task_state_in}
use Rattle.services.specs.Objects.{Objects, by_task, kept_in}
use Rattle.law_kept.specs.Seen.{priority_in}
use Rattle.kernel.specs.Processor.{Processor, picture, system_of}
use Rattle.seen_ticks.specs.Told.{task_at_in}
use Rattle.kernel.proofs.processor.Processor.task_at.Goals as goal

pub returns : goal.returns
returns g c =
    let t = c.args.task in
    (λ i. record {
      state = (c.task_state.ensures ∙ ap (λ (o : Objects). task_state_in (kept_in o) t) c.objects.ensures) i;
      priority = (c.dynamic_priority.ensures ∙ ap (λ (o : Objects). priority_in o.system t (by_task o.slots t)) c.objects-2.ensures) i;
      jobs = c.job_count.ensures.value i;
    })
    ∙ ap (λ (x : Processor). task_at_in (system_of x) (picture x) t) c.self.view_is
