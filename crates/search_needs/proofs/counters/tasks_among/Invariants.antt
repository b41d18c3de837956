use Rattle.search_needs.specs.Table.{has}
use Rattle.search_needs.specs.Asked.{TasksAsk}
use Rattle.search_needs.proofs.counters.tasks_among.Given as goal

abbrev pub invariant-loop-number : goal.invariant-loop-number
invariant-loop-number l = TasksAsk l.system (has l.counters) l.number
