use Rattle.std.proofs.Common.{◌≡◌, take, false}
use Rattle.std.specs.List.{list_any}
use Rattle.alarms.specs.Waits.{is_of}
use Rattle.alarms.proofs.difference_list.place_of.Given as goal

abbrev pub invariant-loop-place : goal.invariant-loop-place
invariant-loop-place l = list_any (is_of l.alarm) (take l.place l.entries.items) ≡ false
