use Rattle.std.proofs.Common.{◌≡◌, replicate}
use Rattle.search_labels.proofs.blocked.first_blocked.Given as goal

abbrev pub invariant-loop-made : goal.invariant-loop-made
invariant-loop-made l = l.blocked.items ≡ replicate l._made 0
