use Rattle.std.proofs.Common.{ℕ, false, List, [], ◌≡◌, ◌<◌, length, refl, ◌∙◌, ap, sym, arith}
use Rattle.seen_ticks.specs.declared.task_seen.TaskSeen.{TaskSeen}
use Rattle.osek_base.specs.System.{System}
use Rattle.kernel.proofs.Filled.{goes_on}
use Rattle.seen_runs.specs.Keeping.{last_tick}
use Rattle.seen_ticks.specs.Observed.{jobs_before, task_seen}
use Rattle.seen_ticks.specs.declared.task_at.TaskAt.{TaskAt}
use Rattle.seen_ticks.specs.Told.{task_at}
use Rattle.kernel.proofs.Replacing.{next_is, none_replaced, one_replaced}
use Rattle.seen_ticks.proofs.SeenSteps.{read_at, seen_count}
use Rattle.seen_runs.proofs.told_run.ToldRun.see_tasks.Goals as goal

pub see_task-requires-clause-at : goal.see_task-requires-clause-at
see_task-requires-clause-at g c =
    let r = c.args.self.now in
    let all : c.task_count-count.result ≡ length r.system.tasks =
    c.task_count-count.ensures.value ∙ ap (λ (S : System). length S.tasks) c.system.ensures in
    let low = c.loop-number-test.true in
    let within : c.loop-number.number < length r.system.tasks = omega (arith, low, all) in
    let (long, done, replaced, stands) = c.loop-number.invariant in
    let f : ℕ → TaskAt = task_at r.system (last_tick r).at in
    next_is (task_at r.system (last_tick r).after) c.as_mut_slice-stood.result.now (length r.system.tasks) c.loop-number.number c.loop-number.stood stands _
    ∙ read_at f (length r.system.tasks) c.as_mut_slice-stood.result.now c.args.at.now.tasks.items
    c.loop-number.number c.loop-number.number _ c.as_mut_slice-stood.ensures.value c.requires.each refl within
    ∙ ap f (sym c.new-task.ensures)

pub see_task-requires-clause-jobs : goal.see_task-requires-clause-jobs
see_task-requires-clause-jobs g c =
    let r = c.args.self.now in
    let all : c.task_count-count.result ≡ length r.system.tasks =
    c.task_count-count.ensures.value ∙ ap (λ (S : System). length S.tasks) c.system.ensures in
    let low = c.loop-number-test.true in
    let within : c.loop-number.number < length r.system.tasks = omega (arith, low, all) in
    let (long, done, replaced, stands) = c.loop-number.invariant in
    let f : ℕ → ℕ = jobs_before (last_tick r).first (last_tick r).before in
    next_is (jobs_before false (last_tick r).after) c.as_mut_slice-had.result.now (length r.system.tasks) c.loop-number.number c.loop-number.had replaced _
    ∙ read_at f (length r.system.tasks) c.as_mut_slice-had.result.now c.args.jobs.now.items
    c.loop-number.number c.loop-number.number _ c.as_mut_slice-had.ensures.value c.requires.jobs refl within
    ∙ ap f (sym c.new-task.ensures)

pub loop-number-init : goal.loop-number-init
loop-number-init g c =
    let r = c.args.self.now in
    let all : c.task_count-count.result ≡ length r.system.tasks =
    c.task_count-count.ensures.value ∙ ap (λ (S : System). length S.tasks) c.system.ensures in (
      ap (λ (v : List TaskSeen). length v) c.as_mut_slice-places.ensures.value ∙ c.give_places.ensures ∙ all,
      refl {a = []},
      none_replaced (jobs_before false (last_tick r).after) c.as_mut_slice-had.result.now (length r.system.tasks)
          (seen_count (jobs_before (last_tick r).first (last_tick r).before) (length r.system.tasks) c.as_mut_slice-had.result.now
          (c.as_mut_slice-had.ensures.value ∙ c.requires.jobs)),
      none_replaced (task_at r.system (last_tick r).after) c.as_mut_slice-stood.result.now (length r.system.tasks)
          (seen_count (task_at r.system (last_tick r).at) (length r.system.tasks) c.as_mut_slice-stood.result.now
          (c.as_mut_slice-stood.ensures.value ∙ c.requires.each)),
    )

pub loop-number-preserved : goal.loop-number-preserved
loop-number-preserved g c =
    let r = c.args.self.now in
    let low = c.loop-number-test.true in
    let all : c.task_count-count.result ≡ length r.system.tasks =
    c.task_count-count.ensures.value ∙ ap (λ (S : System). length S.tasks) c.system.ensures in
    let (long, done, replaced, stands) = c.loop-number.invariant in
    let (longer, more) =
    goes_on (task_seen r.system (last_tick r)) c.loop-number.number c.loop-number.places (length r.system.tasks) c.task_count-count.result c.new-task.result
    (long, done) low all c.new-task.ensures c.see_task.new.seen c.see_task.ensures.seen in (
      longer,
      more,
      one_replaced (jobs_before false (last_tick r).after) c.as_mut_slice-had.result.now (length r.system.tasks) c.loop-number.number c.loop-number.had
          replaced (omega (arith, low, all))
          (seen_count (jobs_before (last_tick r).first (last_tick r).before) (length r.system.tasks) c.as_mut_slice-had.result.now
          (c.as_mut_slice-had.ensures.value ∙ c.requires.jobs))
          c.see_task.new.jobs
          (c.see_task.ensures.jobs ∙ ap (jobs_before false (last_tick r).after) c.new-task.ensures),
      one_replaced (task_at r.system (last_tick r).after) c.as_mut_slice-stood.result.now (length r.system.tasks) c.loop-number.number c.loop-number.stood
          stands (omega (arith, low, all))
          (seen_count (task_at r.system (last_tick r).at) (length r.system.tasks) c.as_mut_slice-stood.result.now
          (c.as_mut_slice-stood.ensures.value ∙ c.requires.each))
          c.see_task.new.at
          (c.see_task.ensures.at ∙ ap (task_at r.system (last_tick r).after) c.new-task.ensures),
    )
