use Rattle.search_needs.specs.Entries.{TasksRespect}
use Rattle.search_needs.proofs.closed.tasks_respect.Given as goal

abbrev pub invariant-loop-number : goal.invariant-loop-number
invariant-loop-number l = TasksRespect l.system l.needs l.number
