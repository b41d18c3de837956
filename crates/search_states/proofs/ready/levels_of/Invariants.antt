use Rattle.std.proofs.Common.{ℕ, ◌≡◌, ◌<◌, false, drop}
use Rattle.search_needs.specs.Table.{has}
use Rattle.services.specs.CompactQueues.{tasks_at}
use Rattle.search_states.proofs.ready.levels_of.Given as goal

abbrev pub invariant-loop-entry : goal.invariant-loop-entry
invariant-loop-entry l =
    (k : ℕ) → k < 64 → has l.levels k ≡ false
    → tasks_at l.entries k ≡ tasks_at (drop l.entry-index l.entries) k
