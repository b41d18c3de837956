use Rattle.std.proofs.Common.{min}
use Rattle.search_labels.proofs.PairLemmas.{AreMadeBelow}
use Rattle.search_labels.proofs.debts.join_debts.Given as goal

abbrev pub invariant-loop-number : goal.invariant-loop-number
invariant-loop-number l = AreMadeBelow min 0 l.number l.initial.debts l.others l.debts
