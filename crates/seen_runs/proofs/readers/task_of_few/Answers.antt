use Rattle.std.proofs.Common.{◌≤◌, length, sym, ap, subst}
use Rattle.osek_base.specs.declared.limits.TheConstants.{MAX_ACTIVATION}
use Rattle.osek_base.specs.State.{jobs_of}
use Rattle.osek_base.specs.System.{System}
use Rattle.osek_base.specs.Trace.{run}
use Rattle.seen_ticks.specs.declared.task_at.TaskAt.{TaskAt}
use Rattle.seen_runs.proofs.Bounds.{few_jobs}
use Rattle.seen_runs.proofs.readers.task_of_few.Goals as goal

pub returns-clause-few : goal.returns-clause-few
returns-clause-few g c =
    let k = c.args.kernel.now in
    let few = few_jobs c.args.system.now k.mode k.arrivals k.ticks c.args.task c.shows_proper.ensures c.requires.task in
    subst (λ n. n ≤ MAX_ACTIVATION) (sym (ap (λ (a : TaskAt). a.jobs) c.task_at.ensures))
    (subst (λ (S : System). length (jobs_of c.args.task (run S k.mode k.arrivals k.ticks).state.jobs) ≤ MAX_ACTIVATION) (sym c.requires.system) few)
