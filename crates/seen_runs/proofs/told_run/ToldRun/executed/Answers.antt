use Rattle.std.proofs.Common.{◌≤◌, sym, ◌∙◌, ap, subst}
use Rattle.kernel.specs.Progress.{Progress}
use Rattle.seen_runs.specs.Keeping.{last_tick}
use Rattle.seen_runs.proofs.told_run.ToldRun.executed.Goals as goal

pub returns : goal.returns
returns g c =
    let r : Progress = c.self.inside.kernel in
    let told = c.self.invariant.told (subst (λ (x : Progress). 1 ≤ x.ticks) (sym c.self.view_is) c.requires) in
    told.done.executed
    ∙ ap (λ (x : Progress). (last_tick x).executed) c.self.view_is
