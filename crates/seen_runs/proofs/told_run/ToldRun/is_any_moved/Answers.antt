use Rattle.std.proofs.Common.{◌≤◌, sym, ◌∙◌, ap, subst}
use Rattle.kernel.specs.Progress.{Progress}
use Rattle.seen_runs.specs.Keeping.{last_tick}
use Rattle.seen_ticks.specs.Observed.{moved}
use Rattle.seen_runs.proofs.told_run.ToldRun.is_any_moved.Goals as goal

pub returns : goal.returns
returns g c =
    let told = c.self.invariant.told (subst (λ (x : Progress). 1 ≤ x.ticks) (sym c.self.view_is) c.requires) in
    told.done.moved ∙ ap (λ (x : Progress). moved x.system (last_tick x).executed) c.self.view_is
