use Rattle.std.proofs.Common.{max}
use Rattle.search_labels.proofs.PairLemmas.{AreMadeBelow}
use Rattle.search_labels.proofs.blocked.join_blocked.Given as goal

abbrev pub invariant-loop-task : goal.invariant-loop-task
invariant-loop-task l = AreMadeBelow max 0 l.task l.initial.blocked l.others l.blocked
