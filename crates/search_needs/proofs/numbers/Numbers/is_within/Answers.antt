use Rattle.std.proofs.Common.{IsTrue, sym, subst}
use Rattle.search_needs.specs.Table.{has}
use Rattle.search_needs.proofs.NumberLemmas.{within}
use Rattle.search_needs.proofs.numbers.Numbers.is_within.Goals as goal

pub returns : goal.returns
returns c same n h =
    subst (λ w. IsTrue (has w n)) c.other.view_is
    (within c.self.inside.word c.other.inside.word n same (subst (λ w. IsTrue (has w n)) (sym c.self.view_is) h))
