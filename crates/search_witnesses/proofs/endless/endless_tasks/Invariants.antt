use Rattle.std.specs.List.{All}
use Rattle.law_bounds.specs.Unending.{NeedNotEnd}
use Rattle.search_witnesses.proofs.endless.endless_tasks.Given as goal

abbrev pub invariant-loop-task : goal.invariant-loop-task
invariant-loop-task l = All (NeedNotEnd l.system l.mode l.rules) l.tasks.items
