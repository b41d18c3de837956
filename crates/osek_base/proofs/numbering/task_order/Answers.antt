-- One priority more.
use Rattle.std.proofs.Common.{◌≡◌, ◌-◌, suc, arith}
use Rattle.osek_base.proofs.NumberingLemmas.{order_begun, order_more}
use Rattle.osek_base.proofs.numbering.task_order.Goals as goal

pub loop-priority-init : goal.loop-priority-init
loop-priority-init c = order_begun c.args.priorities.now c.new-order.result.items c.new-order.ensures.items

pub loop-priority-preserved : goal.loop-priority-preserved
loop-priority-preserved c =
    let n = c.loop-priority.priority in
    let n_is : n ≡ suc (n - 1) = omega (arith, c.loop-priority-test.true) in
    order_more c.args.priorities.now c.loop-priority.order.items c.push_places.new.order.items n (n - 1) n_is c.in_ok-push_places.ensures c.loop-priority.invariant
