use Rattle.std.proofs.Common.{◌≤◌, ◌-◌, sym, ◌∙◌, ap, subst}
use Rattle.kernel.specs.Progress.{Progress}
use Rattle.osek_base.specs.Proper.{IsProper}
use Rattle.seen_runs.specs.Keeping.{last_tick}
use Rattle.seen_runs.specs.Tasks.{LeavesTasks, is_plain}
use Rattle.seen_runs.proofs.Standing.{plain_leaves}
use Rattle.seen_runs.proofs.told_run.ToldRun.leaves_tasks.Goals as goal

pub returns : goal.returns
returns g c = λ plain.
    let r : Progress = c.self.inside.kernel in
    let told = c.self.invariant.told (subst (λ (x : Progress). 1 ≤ x.ticks) (sym c.self.view_is) c.requires) in
    let proper : IsProper r.system = subst IsProper (sym c.self.invariant.system) c.shows_proper.ensures in
    subst (λ (x : Progress). LeavesTasks x.system (last_tick x)) c.self.view_is
    (plain_leaves r.system proper r.mode r.arrivals (r.ticks - 1) told.on
    (ap is_plain (sym told.done.executed) ∙ sym c.is_plain.ensures ∙ plain))
