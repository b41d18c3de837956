use Rattle.std.proofs.Common.{arith, ◌≡◌, ◌-◌}
use Rattle.std.proofs.lemmas.List.{get_or_default}
use Rattle.alarms.specs.Waits.{not_waiting}
use Rattle.alarms.proofs.WaitLemmas.{step_span}
use Rattle.alarms.proofs.difference_list.span_from.Goals as goal

pub overflow_add-left : goal.overflow_add-left
overflow_add-left c =
    let step = step_span c.args.entries.now.items c.loop-at.at (omega arith) (omega arith) in
    let is : c.deref.result.now ≡ c.args.entries.now.items = c.deref.ensures.0 in
    let same = get_or_default c.args.entries.now.items (c.loop-at.at - 1) c.index-deref-at.result not_waiting (omega arith) in
    rw (is, same) (omega (arith, step))
