use Rattle.std.proofs.Common.{◌<◌, length, arith}
use Rattle.view_dumps.specs.Ticks.{task_after, task_text}
use Rattle.view_dumps.proofs.EachLemmas.{changes_step, values_step}
use Rattle.view_dumps.proofs.last_values.push_tasks.Goals as goal

pub loop-number-preserved : goal.loop-number-preserved
loop-number-preserved c =
    let i = c.loop-number.number in
    let vs = c.args.values.now in
    let xs = c.args.seen.now.items in
    let seen : i < length xs = omega arith in
    let kept : i < length vs = omega (arith, c.told-values, c.len-number-end.ensures.fits) in
    record {
      same =
          changes_step task_after task_text c.args.text.now c.loop-number.text c.push_changes.new.text vs c.loop-number.values xs c.deref.result.now i
          c.new-task.result _ _ kept seen c.deref.ensures.0 c.new-task.ensures c.loop-number.invariant.after c.loop-number.invariant.same
          c.push_changes.ensures.same;
      after =
          values_step task_after vs c.loop-number.values xs c.deref.result.now i _ _ _ kept seen c.deref.ensures.0
          c.loop-number.invariant.after c.push_changes.ensures.after;
      short = omega (arith, c.push_changes.ensures.short, c.loop-number.invariant.short);
    }
