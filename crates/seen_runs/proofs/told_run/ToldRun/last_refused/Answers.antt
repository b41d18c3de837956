use Rattle.std.proofs.Common.{◌≤◌, sym, ◌∙◌, ap, subst}
use Rattle.kernel.specs.declared.acted.Acted.{Acted}
use Rattle.kernel.specs.Progress.{Progress}
use Rattle.seen_runs.specs.Keeping.{last_tick}
use Rattle.seen_runs.proofs.told_run.ToldRun.last_refused.Goals as goal

pub returns : goal.returns
returns g c =
    let some = subst (λ (x : Progress). 1 ≤ x.ticks) (sym c.self.view_is) c.requires in
    c.last_refused.ensures ∙ ap (λ (a : Acted). a.refused) (c.machine.ensures.acted some)
    ∙ ap (λ (x : Progress). (last_tick x).refused) c.self.view_is
