use Rattle.std.proofs.Common.{◌≡◌, None, replicate}
use Rattle.search_labels.proofs.pending.first_pending.Given as goal

abbrev pub invariant-loop-made : goal.invariant-loop-made
invariant-loop-made l = l.pending.items ≡ replicate l._made None
