use Rattle.std.proofs.Common.{◌≤◌, ◌-◌, ℕ, List, length, sym, subst}
use Rattle.osek_base.specs.declared.limits.TheConstants.{MAX_ARRIVALS}
use Rattle.kernel.specs.Progress.{Progress}
use Rattle.seen_runs.proofs.Seeing.{arriving_few}
use Rattle.seen_runs.proofs.told_run.ToldRun.arrived.Goals as goal

pub times-requires : goal.times-requires
times-requires g c =
    let r : Progress = c.self.inside.kernel in
    subst (λ (xs : List ℕ). length xs ≤ MAX_ARRIVALS) (sym c.last_arrived.ensures)
    (arriving_few r.arrivals (r.ticks - 1) c.self.invariant.few)
