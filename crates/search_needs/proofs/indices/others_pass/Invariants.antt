use Rattle.std.proofs.Common.{◌≡◌, ◌+◌}
use Rattle.search_needs.proofs.PassLemmas.{PassBelow}
use Rattle.search_needs.proofs.indices.others_pass.Given as goal

abbrev pub invariant-loop-number : goal.invariant-loop-number
invariant-loop-number l = PassBelow (λ r. r ≡ l.but) l.rows l.place (l.place + 1) l.number
