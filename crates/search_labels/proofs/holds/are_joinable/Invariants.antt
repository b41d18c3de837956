use Rattle.std.proofs.Common.{ℕ, ◌<◌, get_or}
use Rattle.search_labels.specs.Joining.{AreJoinable}
use Rattle.search_labels.specs.Labels.{no_hold}
use Rattle.search_labels.proofs.holds.are_joinable.Given as goal

abbrev pub invariant-loop-resource : goal.invariant-loop-resource
invariant-loop-resource l =
    (r : ℕ) → r < l.resource → AreJoinable (get_or l.holds r no_hold) (get_or l.others r no_hold)
