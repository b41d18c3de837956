use Rattle.search_labels.specs.Joining.{joined_hold}
use Rattle.search_labels.specs.Labels.{no_hold}
use Rattle.search_labels.proofs.PairLemmas.{AreMadeBelow}
use Rattle.search_labels.proofs.holds.join_holds.Given as goal

abbrev pub invariant-loop-resource : goal.invariant-loop-resource
invariant-loop-resource l =
    AreMadeBelow joined_hold no_hold l.resource l.initial.holds l.others l.holds
