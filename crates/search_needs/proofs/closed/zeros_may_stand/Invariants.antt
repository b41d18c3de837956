use Rattle.std.proofs.Common.{ℕ, ◌<◌, IsTrue}
use Rattle.search_needs.specs.Table.{allows}
use Rattle.search_needs.proofs.closed.zeros_may_stand.Given as goal

abbrev pub invariant-loop-number : goal.invariant-loop-number
invariant-loop-number l = (r : ℕ) → r < l.number → IsTrue (allows l.rows 0 r 0)
