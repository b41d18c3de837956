use Rattle.std.proofs.Common.{length, map, sym, ◌∙◌, ap}
use Rattle.std.specs.Prelude.{◌==◌}
use Rattle.osek_base.specs.Lists.{below}
use Rattle.osek_base.specs.System.{System}
use Rattle.kernel.specs.Progress.{run_of}
use Rattle.seen_ticks.specs.Observed.{is_pending, jobs_before}
use Rattle.seen_runs.proofs.before.Before.of.Goals as goal

pub returns : goal.returns
returns g c =
    let r = c.args.kernel.now in
    let here = sym c.requires in
    record {
      jobs =
          c.see_jobs.ensures
          ∙ ap (λ (S : System). map (jobs_before (r.ticks == 0) (run_of r).state) (below (length S.tasks))) here;
      pending = c.see_pending.ensures ∙ ap (λ (S : System). map (is_pending (run_of r).state) (below (length S.routines))) here;
      active = c.active_routine.ensures;
    }
