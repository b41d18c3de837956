use Rattle.std.proofs.Common.{◌≡◌, replicate}
use Rattle.search_labels.specs.Labels.{no_hold}
use Rattle.search_labels.proofs.holds.first_holds.Given as goal

abbrev pub invariant-loop-made : goal.invariant-loop-made
invariant-loop-made l = l.holds.items ≡ replicate l._made no_hold
