use Rattle.std.proofs.Common.{◌≡◌, replicate}
use Rattle.search_labels.proofs.debts.first_debts.Given as goal

abbrev pub invariant-loop-made : goal.invariant-loop-made
invariant-loop-made l = l.debts.items ≡ replicate l._made 0
