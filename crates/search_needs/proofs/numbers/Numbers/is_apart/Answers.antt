use Rattle.std.proofs.Common.{IsTrue, sym, subst}
use Rattle.search_needs.specs.Table.{has}
use Rattle.search_needs.proofs.NumberLemmas.{apart}
use Rattle.search_needs.proofs.numbers.Numbers.is_apart.Goals as goal

pub returns : goal.returns
returns c none n h k =
    apart c.self.inside.word c.other.inside.word n none (subst (λ w. IsTrue (has w n)) (sym c.self.view_is) h)
    (subst (λ w. IsTrue (has w n)) (sym c.other.view_is) k)
