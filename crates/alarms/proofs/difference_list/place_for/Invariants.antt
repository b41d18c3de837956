use Rattle.std.proofs.Common.{◌≡◌, ◌≤◌, ◌+◌, length, drop, true}
use Rattle.std.specs.List.{list_all}
use Rattle.alarms.specs.Waits.{span, waits, is_sooner}
use Rattle.alarms.proofs.difference_list.place_for.Given as goal

abbrev pub invariant-loop-place : goal.invariant-loop-place
invariant-loop-place l = record {
  place : l.place ≤ length l.entries.items;
  left : l.left + span (drop l.place l.entries.items) ≡ l.wait;
  sooner : list_all (is_sooner (record { alarm = l.alarm; left = l.wait; cycle = 0 })) (waits (drop l.place l.entries.items)) ≡ true;
}

abbrev pub decreases-loop-place : goal.decreases-loop-place
decreases-loop-place l = l.place
