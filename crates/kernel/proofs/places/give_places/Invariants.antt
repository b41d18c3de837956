use Rattle.std.proofs.Common.{◌≡◌, length}
use Rattle.kernel.proofs.places.give_places.Given as goal

abbrev pub invariant-loop-made : goal.invariant-loop-made
invariant-loop-made g l = length l.list.items ≡ l._made
