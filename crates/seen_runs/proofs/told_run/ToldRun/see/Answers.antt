use Rattle.std.proofs.Common.{◌≡◌, ◌≤◌, false, length, map, sym, ◌∙◌, ap, ap₂, subst, arith}
use Rattle.std.specs.Prelude.{◌==◌}
use Rattle.osek_base.specs.Lists.{below}
use Rattle.osek_base.specs.State.{State}
use Rattle.kernel.specs.Progress.{Progress, run_of}
use Rattle.seen_ticks.specs.Observed.{active_routine, is_pending, jobs_before}
use Rattle.seen_ticks.specs.Told.{task_at}
use Rattle.seen_runs.specs.Keeping.{last_tick}
use Rattle.seen_runs.proofs.told_run.ToldRun.see.Goals as goal

pub returns-clause-next : goal.returns-clause-next
returns-clause-next g c =
    let r : Progress = c.args.self.now in
    let told = c.self.invariant.told (subst (λ (x : Progress). 1 ≤ x.ticks) (sym c.self.view_is) c.requires.ticked) in
    let ticked = c.requires.ticked in
    let later : (r.ticks == 0) ≡ false = grind (arith, ticked) in
    let behind : (run_of r).state ≡ (last_tick r).after =
    subst (λ (x : Progress). (run_of x).state ≡ (last_tick x).after) c.self.view_is told.behind in
    record {
      jobs =
          c.see_tasks.ensures.jobs
          ∙ sym (ap₂ (λ first (s : State). map (jobs_before first s) (below (length r.system.tasks))) later behind);
      pending =
          c.see_routines.ensures.pending
          ∙ sym (ap (λ (s : State). map (is_pending s) (below (length r.system.routines))) behind);
      active = c.active_routine-before.ensures ∙ ap (λ (x : Progress). active_routine (run_of x).state) c.self.view_is;
    }

pub returns-clause-each : goal.returns-clause-each
returns-clause-each g c =
    let r : Progress = c.args.self.now in
    let told = c.self.invariant.told (subst (λ (x : Progress). 1 ≤ x.ticks) (sym c.self.view_is) c.requires.ticked) in
    let behind : (run_of r).state ≡ (last_tick r).after =
    subst (λ (x : Progress). (run_of x).state ≡ (last_tick x).after) c.self.view_is told.behind in
    c.see_tasks.ensures.each ∙ sym (ap (λ (s : State). map (task_at r.system s) (below (length r.system.tasks))) behind)
