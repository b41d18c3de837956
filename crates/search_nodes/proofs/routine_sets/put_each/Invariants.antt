use Rattle.std.proofs.Common.{◌≡◌, ◌==◌}
use Rattle.std.specs.Int.{bit_at}
use Rattle.std.specs.List.{filter}
use Rattle.osek_base.specs.Lists.{below}
use Rattle.search_nodes.proofs.routine_sets.put_each.Given as goal

abbrev pub invariant-loop-number : goal.invariant-loop-number
invariant-loop-number l = l.routines.items ≡ filter (λ i. bit_at l.set i == 1) (below l.number)
