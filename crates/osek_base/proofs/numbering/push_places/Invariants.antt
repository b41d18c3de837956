-- The places so far stand behind what stood there.
use Rattle.std.proofs.Common.{◌≡◌, ◌++◌}
use Rattle.osek_base.proofs.NumberingLemmas.{places_below}
use Rattle.osek_base.proofs.numbering.push_places.Given as goal

abbrev pub invariant-loop-place : goal.invariant-loop-place
invariant-loop-place l = l.order.items ≡ l.fn.order.items ++ places_below l.priorities l.priority l.place
