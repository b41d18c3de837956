-- The answer for all is the answer for what is left.
use Rattle.std.proofs.Common.{◌≡◌, drop}
use Rattle.osek_base.specs.ArrivalList.{are_in_order}
use Rattle.osek_base.proofs.arrivals.are_in_order.Given as goal

abbrev pub invariant-loop-arrival : goal.invariant-loop-arrival
invariant-loop-arrival l = are_in_order l.least (drop l.arrival-index l.arrivals) ≡ are_in_order 0 l.arrivals
