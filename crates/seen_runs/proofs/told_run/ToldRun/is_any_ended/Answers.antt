use Rattle.std.proofs.Common.{◌≤◌, sym, ◌∙◌, ap, subst}
use Rattle.std.specs.Prelude.{is_some}
use Rattle.kernel.specs.Progress.{Progress}
use Rattle.seen_runs.specs.Keeping.{last_tick}
use Rattle.seen_ticks.specs.Observed.{ending}
use Rattle.seen_runs.proofs.told_run.ToldRun.is_any_ended.Goals as goal

pub returns : goal.returns
returns g c =
    let r : Progress = c.self.inside.kernel in
    let told = c.self.invariant.told (subst (λ (x : Progress). 1 ≤ x.ticks) (sym c.self.view_is) c.requires) in
    c.is_some.ensures ∙ ap is_some told.done.ending
    ∙ ap (λ (x : Progress). is_some (ending x.system (last_tick x).executed)) c.self.view_is
