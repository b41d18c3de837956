use Rattle.search_needs.proofs.PassLemmas.{PassBelow}
use Rattle.search_needs.proofs.indices.all_pass.Given as goal

abbrev pub invariant-loop-number : goal.invariant-loop-number
invariant-loop-number l = PassBelow (λ r. ⊥) l.rows l.place l.to l.number
