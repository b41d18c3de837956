use Rattle.std.proofs.Common.{ℕ, ◌+◌, ◌<◌}
use Rattle.law_future.specs.Need.{MayHoldAll}
use Rattle.search_needs.specs.Table.{allows}
use Rattle.search_needs.proofs.indices.answers_follow.Given as goal

abbrev pub invariant-loop-number : goal.invariant-loop-number
invariant-loop-number l = (r : ℕ) → r < l.number → MayHoldAll (allows l.rows (l.place + 1)) r
