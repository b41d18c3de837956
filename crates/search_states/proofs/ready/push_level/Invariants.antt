use Rattle.std.proofs.Common.{◌≡◌, ◌++◌, drop}
use Rattle.services.specs.CompactQueues.{tasks_at}
use Rattle.search_keys.specs.Key.{level_key}
use Rattle.search_states.proofs.ready.push_level.Given as goal

abbrev pub invariant-loop-entry : goal.invariant-loop-entry
invariant-loop-entry l =
    l.out.items ++ level_key l.level (tasks_at (drop l.entry-index l.entries) l.level)
    ≡ l.fn.out.items ++ level_key l.level (tasks_at l.entries l.level)
