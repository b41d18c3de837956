use Rattle.std.proofs.Common.{◌≡◌, take, false}
use Rattle.std.specs.List.{list_any}
use Rattle.services.specs.CompactQueues.{is_below}
use Rattle.services.proofs.compact_queues.place_below.Given as goal

abbrev pub invariant-loop-place : goal.invariant-loop-place
invariant-loop-place l = list_any (is_below l.from) (take l.place l.entries) ≡ false
