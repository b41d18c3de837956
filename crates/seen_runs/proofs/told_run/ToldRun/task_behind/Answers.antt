use Rattle.std.proofs.Common.{◌≤◌, sym, ◌∙◌, ap, subst}
use Rattle.kernel.specs.Progress.{Progress, run_of}
use Rattle.osek_base.specs.System.{System}
use Rattle.osek_base.specs.State.{State}
use Rattle.seen_runs.specs.Keeping.{last_tick}
use Rattle.seen_ticks.specs.Told.{task_at}
use Rattle.seen_runs.proofs.told_run.ToldRun.task_behind.Goals as goal

pub returns-clause-value : goal.returns-clause-value
returns-clause-value g c =
    let r : Progress = c.self.inside.kernel in
    let told = c.self.invariant.told (subst (λ (x : Progress). 1 ≤ x.ticks) (sym c.self.view_is) c.requires.ticked) in
    c.task_of_few.ensures.value
    ∙ ap (λ (S : System). task_at S (run_of r).state c.args.task) (sym c.self.invariant.system)
    ∙ ap (λ (s : State). task_at r.system s c.args.task) told.behind
    ∙ ap (λ (x : Progress). task_at x.system (last_tick x).after c.args.task) c.self.view_is
