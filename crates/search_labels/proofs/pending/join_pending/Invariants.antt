use Rattle.std.proofs.Common.{None}
use Rattle.law_figures.specs.Merging.{merged_age}
use Rattle.search_labels.proofs.PairLemmas.{AreMadeBelow}
use Rattle.search_labels.proofs.pending.join_pending.Given as goal

abbrev pub invariant-loop-routine : goal.invariant-loop-routine
invariant-loop-routine l =
    AreMadeBelow merged_age None l.routine l.initial.pending l.others l.pending
