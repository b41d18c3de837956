use Rattle.std.proofs.Common.{◌≡◌, replicate}
use Rattle.search_labels.proofs.age_lists.no_ends.Given as goal

abbrev pub invariant-loop-made : goal.invariant-loop-made
invariant-loop-made l = l.ends.items ≡ replicate l._made 0
