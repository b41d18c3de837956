use Rattle.std.proofs.Common.{◌≤◌, ◌-◌, false, List, sym, ◌∙◌, ap, subst}
use Rattle.std.specs.Prelude.{Bool, slice_index_or}
use Rattle.kernel.specs.Progress.{Progress}
use Rattle.seen_runs.specs.Keeping.{last_tick}
use Rattle.osek_base.specs.State.{State}
use Rattle.seen_ticks.specs.Observed.{is_pending}
use Rattle.seen_ticks.proofs.Staying.{pending_stays}
use Rattle.seen_runs.proofs.told_run.ToldRun.is_pending.Goals as goal

pub returns-clause-at : goal.returns-clause-at
returns-clause-at g c =
    let r : Progress = c.self.inside.kernel in
    let told = c.self.invariant.told (subst (λ (x : Progress). 1 ≤ x.ticks) (sym c.self.view_is) c.requires.ticked) in
    c.is_pending.ensures ∙ ap (λ (s : State). slice_index_or s.pending c.args.routine false) told.behind
    ∙ ap (λ (v : List Bool). slice_index_or v c.args.routine false) (pending_stays r.system r.mode r.arrivals (r.ticks - 1))
    ∙ ap (λ (x : Progress). is_pending (last_tick x).at c.args.routine) c.self.view_is

pub returns-clause-behind : goal.returns-clause-behind
returns-clause-behind g c =
    let told = c.self.invariant.told (subst (λ (x : Progress). 1 ≤ x.ticks) (sym c.self.view_is) c.requires.ticked) in
    c.is_pending.ensures ∙ ap (λ (s : State). slice_index_or s.pending c.args.routine false) told.behind
    ∙ ap (λ (x : Progress). is_pending (last_tick x).after c.args.routine) c.self.view_is
