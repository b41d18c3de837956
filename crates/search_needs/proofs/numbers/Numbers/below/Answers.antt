use Rattle.std.proofs.Common.{nat_lt, sym, ◌∙◌, ap}
use Rattle.search_needs.specs.Table.{has}
use Rattle.search_needs.proofs.NumberLemmas.{all_below, word_below}
use Rattle.search_needs.proofs.numbers.Numbers.below.Goals as goal

pub returns-then-count-eq64 : goal.returns-then-count-eq64
returns-then-count-eq64 c n = all_below 64 n ∙ ap (nat_lt n) (sym c.if-count-eq64.true)

pub returns : goal.returns
returns c n = ap (λ w. has w n) (word_below c.args.count c.requires c.if-count-eq64.false) ∙ all_below c.args.count n
