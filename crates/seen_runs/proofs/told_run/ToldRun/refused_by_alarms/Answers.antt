use Rattle.std.proofs.Common.{◌≡◌, ◌<◌, ◌-◌, length, sym, ◌∙◌, ap, subst}
use Rattle.std.specs.List.{AllByRecursion}
use Rattle.osek_base.specs.System.{System}
use Rattle.kernel.specs.Progress.{Progress}
use Rattle.seen_ticks.specs.Observed.{activations_by}
use Rattle.seen_ticks.specs.Told.{refused_in}
use Rattle.seen_runs.specs.Keeping.{last_tick}
use Rattle.seen_runs.proofs.RefusedAlarms.{refused_known}
use Rattle.seen_runs.proofs.told_run.ToldRun.refused_by_alarms.Goals as goal

pub activations_by-requires : goal.activations_by-requires
activations_by-requires g c =
    let r : Progress = c.args.self.now in
    let system : r.system ≡ c.self.inside.system.now = ap (λ (x : Progress). x.system) (sym c.self.view_is) ∙ c.self.invariant.system in
    subst (AllByRecursion (λ a. a < length c.self.inside.system.now.alarms)) (sym c.last_refused-refused.ensures)
    (subst (λ (S : System). AllByRecursion (λ a. a < length S.alarms) (refused_in r.system r.mode r.arrivals (r.ticks - 1))) system
    (refused_known r.system r.mode r.arrivals (r.ticks - 1)))

pub returns-clause-value : goal.returns-clause-value
returns-clause-value g c =
    let r : Progress = c.args.self.now in
    let system : r.system ≡ c.self.inside.system.now = ap (λ (x : Progress). x.system) (sym c.self.view_is) ∙ c.self.invariant.system in
    c.activations_by.ensures.value
    ∙ ap (activations_by c.self.inside.system.now c.args.task) c.last_refused-refused.ensures
    ∙ ap (λ (S : System). activations_by S c.args.task (last_tick r).refused) (sym system)
