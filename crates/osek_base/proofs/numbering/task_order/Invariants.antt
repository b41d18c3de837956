-- What is left completes the order.
use Rattle.std.proofs.Common.{◌≡◌, ◌++◌}
use Rattle.osek_base.specs.Numbering.{order_below, task_order}
use Rattle.osek_base.proofs.numbering.task_order.Given as goal

abbrev pub invariant-loop-priority : goal.invariant-loop-priority
invariant-loop-priority l = l.order.items ++ order_below l.priorities l.priority ≡ task_order l.priorities

abbrev pub decreases-loop-priority : goal.decreases-loop-priority
decreases-loop-priority l = l.priority
