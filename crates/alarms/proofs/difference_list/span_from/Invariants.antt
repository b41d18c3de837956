use Rattle.std.proofs.Common.{◌≡◌, ◌≤◌, length, drop}
use Rattle.alarms.specs.Waits.{span}
use Rattle.alarms.proofs.difference_list.span_from.Given as goal

abbrev pub invariant-loop-at : goal.invariant-loop-at
invariant-loop-at l = record { above : l.place ≤ l.at; within : l.at ≤ length l.entries.items; left : l.left ≡ span (drop l.at l.entries.items) }

abbrev pub decreases-loop-at : goal.decreases-loop-at
decreases-loop-at l = l.at
