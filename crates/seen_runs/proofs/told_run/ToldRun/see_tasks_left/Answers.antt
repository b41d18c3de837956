use Rattle.std.proofs.Common.{◌≡◌, length, refl, sym, ◌∙◌, ap, arith}
use Rattle.osek_base.specs.System.{System}
use Rattle.kernel.proofs.Filled.{goes_on}
use Rattle.seen_runs.specs.Keeping.{last_tick}
use Rattle.seen_ticks.specs.Observed.{task_seen}
use Rattle.seen_ticks.specs.Told.{task_at}
use Rattle.seen_ticks.proofs.SeenSteps.{inside, read_at}
use Rattle.seen_runs.proofs.told_run.ToldRun.see_tasks_left.Goals as goal

pub bounds-stand-number : goal.bounds-stand-number
bounds-stand-number g c =
    let r = c.args.self.now in
    let all : c.task_count-count.result ≡ length r.system.tasks =
    c.task_count-count.ensures.value ∙ ap (λ (S : System). length S.tasks) c.system.ensures in
    let low = c.loop-number-test.true in
    inside (task_at r.system (last_tick r).after) (length r.system.tasks) c.as_slice-stand.result.now c.args.at.now.tasks.items
    c.loop-number.number c.loop-number.number c.as_slice-stand.ensures.value c.requires.each refl (omega (arith, low, all))

pub see_left-requires-clause-at : goal.see_left-requires-clause-at
see_left-requires-clause-at g c =
    let r = c.args.self.now in
    let all : c.task_count-count.result ≡ length r.system.tasks =
    c.task_count-count.ensures.value ∙ ap (λ (S : System). length S.tasks) c.system.ensures in
    let low = c.loop-number-test.true in
    read_at (task_at r.system (last_tick r).after) (length r.system.tasks) c.as_slice-stand.result.now c.args.at.now.tasks.items
    c.loop-number.number c.loop-number.number _ c.as_slice-stand.ensures.value c.requires.each refl (omega (arith, low, all))
    ∙ ap (task_at r.system (last_tick r).after) (sym c.new-task.ensures)

pub loop-number-preserved : goal.loop-number-preserved
loop-number-preserved g c =
    let r = c.args.self.now in
    goes_on (task_seen r.system (last_tick r)) c.loop-number.number c.loop-number.places (length r.system.tasks) c.task_count-count.result c.new-task.result
    c.loop-number.invariant c.loop-number-test.true
    (c.task_count-count.ensures.value ∙ ap (λ (S : System). length S.tasks) c.system.ensures)
    c.new-task.ensures c.see_left.new.seen c.see_left.ensures
