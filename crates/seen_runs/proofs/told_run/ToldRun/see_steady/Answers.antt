use Rattle.std.proofs.Common.{◌≡◌, ℕ, ◌≤◌, ◌-◌, Bool, true, false, List, length, map, sym, ◌∙◌, ap, ap₂, subst, arith}
use Rattle.std.proofs.Math.Path.{fun_ext}
use Rattle.std.specs.Prelude.{◌==◌, slice_index_or}
use Rattle.osek_base.specs.Lists.{below}
use Rattle.osek_base.specs.State.{State}
use Rattle.kernel.specs.Progress.{Progress, run_of}
use Rattle.seen_ticks.specs.Observed.{active_routine, jobs_before}
use Rattle.seen_ticks.specs.declared.task_at.TaskAt.{TaskAt}
use Rattle.seen_ticks.specs.Told.{task_at}
use Rattle.seen_runs.specs.Keeping.{last_tick}
use Rattle.seen_ticks.proofs.Staying.{pending_stays}
use Rattle.seen_runs.proofs.Jobless.{leaves_all}
use Rattle.seen_runs.proofs.Resting.{alarms_rest, routines_rest}
use Rattle.seen_runs.proofs.told_run.ToldRun.see_steady.Goals as goal

pub see_alike-requires-clause-each : goal.see_alike-requires-clause-each
see_alike-requires-clause-each g c =
    let r : Progress = c.args.self.now in
    c.requires.each
    ∙ ap (λ (f : ℕ → TaskAt). map f (below (length r.system.tasks))) (fun_ext (c.if-leaves_tasks.ensures (λ i. true)).each)

pub see_alike-requires-clause-leaves : goal.see_alike-requires-clause-leaves
see_alike-requires-clause-leaves g c =
    let r : Progress = c.args.self.now in
    leaves_all r.system (last_tick r) (c.if-leaves_tasks.ensures (λ i. true)) c.requires.rest c.requires.none_made

pub see_alike-requires-clause-none : goal.see_alike-requires-clause-none
see_alike-requires-clause-none g c =
    let leaves = c.if-leaves_tasks.ensures (λ i. true) in
    record { answer = leaves.answer; failure = leaves.failure }

pub see_rest-requires-clause-routines : goal.see_rest-requires-clause-routines
see_rest-requires-clause-routines g c rests =
    let r : Progress = c.args.self.now in
    ap (λ v. v.items) c.see_executed.ensures.routines ∙ (c.requires.resting rests).routines
    ∙ sym (routines_rest (last_tick r) c.requires.rest (length r.system.routines))

pub see_rest-requires-clause-alarms : goal.see_rest-requires-clause-alarms
see_rest-requires-clause-alarms g c rests =
    let r : Progress = c.args.self.now in
    ap (λ v. v.items) c.see_executed.ensures.alarms ∙ (c.requires.resting rests).alarms
    ∙ sym (alarms_rest (last_tick r) c.requires.rest (length r.system.alarms))

pub returns-then-leaves_tasks-clause-next : goal.returns-then-leaves_tasks-clause-next
returns-then-leaves_tasks-clause-next g c =
    let r : Progress = c.args.self.now in
    let told = c.self.invariant.told (subst (λ (x : Progress). 1 ≤ x.ticks) (sym c.self.view_is) c.requires.ticked) in
    let ticked = c.requires.ticked in
    let later : (r.ticks == 0) ≡ false = grind (arith, ticked) in
    let behind : (run_of r).state ≡ (last_tick r).after =
    subst (λ (x : Progress). (run_of x).state ≡ (last_tick x).after) c.self.view_is told.behind in
    let pending =
    sym c.requires.rest.pending ∙ sym (pending_stays r.system r.mode r.arrivals (r.ticks - 1))
    ∙ sym (ap (λ (s : State). s.pending) behind) in
    let each : (t : ℕ) → jobs_before (last_tick r).first (last_tick r).before t ≡ jobs_before false (last_tick r).after t =
    λ t. c.requires.none_made t ∙ ap (λ (x : TaskAt). x.jobs) ((c.if-leaves_tasks.ensures (λ i. true)).each t) in
    record {
      jobs =
          c.requires.known.jobs ∙ ap (λ (f : ℕ → ℕ). map f (below (length r.system.tasks))) (fun_ext each)
          ∙ sym (ap₂ (λ first (s : State). map (jobs_before first s) (below (length r.system.tasks))) later behind);
      pending =
          c.requires.known.pending
          ∙ ap (λ (v : List Bool). map (λ i. slice_index_or v i false) (below (length r.system.routines))) pending;
      active = c.active_routine-before.ensures ∙ ap (λ (x : Progress). active_routine (run_of x).state) c.self.view_is;
    }

pub returns-then-leaves_tasks-clause-each : goal.returns-then-leaves_tasks-clause-each
returns-then-leaves_tasks-clause-each g c =
    let r : Progress = c.args.self.now in
    let told = c.self.invariant.told (subst (λ (x : Progress). 1 ≤ x.ticks) (sym c.self.view_is) c.requires.ticked) in
    let behind : (run_of r).state ≡ (last_tick r).after =
    subst (λ (x : Progress). (run_of x).state ≡ (last_tick x).after) c.self.view_is told.behind in
    c.requires.each
    ∙ ap (λ (f : ℕ → TaskAt). map f (below (length r.system.tasks))) (fun_ext (c.if-leaves_tasks.ensures (λ i. true)).each)
    ∙ sym (ap (λ (s : State). map (task_at r.system s) (below (length r.system.tasks))) behind)

pub returns-clause-next : goal.returns-clause-next
returns-clause-next g c =
    let r : Progress = c.args.self.now in
    let told = c.self.invariant.told (subst (λ (x : Progress). 1 ≤ x.ticks) (sym c.self.view_is) c.requires.ticked) in
    let ticked = c.requires.ticked in
    let later : (r.ticks == 0) ≡ false = grind (arith, ticked) in
    let behind : (run_of r).state ≡ (last_tick r).after =
    subst (λ (x : Progress). (run_of x).state ≡ (last_tick x).after) c.self.view_is told.behind in
    let pending =
    sym c.requires.rest.pending ∙ sym (pending_stays r.system r.mode r.arrivals (r.ticks - 1))
    ∙ sym (ap (λ (s : State). s.pending) behind) in
    record {
      jobs =
          c.see_tasks.ensures.jobs
          ∙ sym (ap₂ (λ first (s : State). map (jobs_before first s) (below (length r.system.tasks))) later behind);
      pending =
          c.requires.known.pending
          ∙ ap (λ (v : List Bool). map (λ i. slice_index_or v i false) (below (length r.system.routines))) pending;
      active = c.active_routine-before.ensures ∙ ap (λ (x : Progress). active_routine (run_of x).state) c.self.view_is;
    }

pub returns-clause-each : goal.returns-clause-each
returns-clause-each g c =
    let r : Progress = c.args.self.now in
    let told = c.self.invariant.told (subst (λ (x : Progress). 1 ≤ x.ticks) (sym c.self.view_is) c.requires.ticked) in
    let behind : (run_of r).state ≡ (last_tick r).after =
    subst (λ (x : Progress). (run_of x).state ≡ (last_tick x).after) c.self.view_is told.behind in
    c.see_tasks.ensures.each ∙ sym (ap (λ (s : State). map (task_at r.system s) (below (length r.system.tasks))) behind)
