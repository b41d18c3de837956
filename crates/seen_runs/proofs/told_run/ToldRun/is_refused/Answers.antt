use Rattle.std.proofs.Common.{◌≤◌, sym, ◌∙◌, ap, subst}
use Rattle.kernel.specs.Progress.{Progress}
use Rattle.seen_runs.specs.Keeping.{last_tick}
use Rattle.seen_ticks.specs.Observed.{is_number, refusing}
use Rattle.seen_runs.proofs.told_run.ToldRun.is_refused.Goals as goal

pub returns : goal.returns
returns g c =
    let r : Progress = c.self.inside.kernel in
    let told = c.self.invariant.told (subst (λ (x : Progress). 1 ≤ x.ticks) (sym c.self.view_is) c.requires) in
    c.is_task.ensures ∙ ap (is_number c.args.task) told.done.refusing
    ∙ ap (λ (x : Progress). is_number c.args.task (refusing x.system (last_tick x).executed)) c.self.view_is
