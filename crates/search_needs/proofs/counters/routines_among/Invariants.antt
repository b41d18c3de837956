use Rattle.search_needs.specs.Table.{has}
use Rattle.search_needs.specs.Asked.{RoutinesAsk}
use Rattle.search_needs.proofs.counters.routines_among.Given as goal

abbrev pub invariant-loop-number : goal.invariant-loop-number
invariant-loop-number l = RoutinesAsk l.system (has l.counters) l.number
