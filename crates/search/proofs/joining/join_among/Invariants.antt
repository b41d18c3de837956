use Rattle.std.proofs.Common.{◌≡◌}
use Rattle.search.proofs.joining.join_among.Given as goal

abbrev pub invariant-loop-number : goal.invariant-loop-number
invariant-loop-number g l = (l.left ≡ l.fn.node) × (l.nodes ≡ l.fn.nodes)
