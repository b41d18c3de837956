-- Arrivals that pay by each rule, counted.
use Rattle.std.proofs.Common.{ℕ, zero, suc, ◌≡◌, ◌≤◌, ◌+◌, ◌-◌, ◌*◌, true, List, [], ◌∷◌, length, subst, arith}
use Rattle.std.proofs.lemmas.Bool.{leb-true}
use Rattle.std.proofs.lemmas.Nat.{mul-le}
use Rattle.osek_base.specs.declared.arrivals.Arrival.{Arrival}
use Rattle.osek_base.proofs.PlaceLemmas.{and_split}
use Rattle.arrival_rules.specs.declared.rule.ArrivalRule.{ArrivalRule}
use Rattle.arrival_rules.specs.Rules.{comings}
use Rattle.search_witnesses.specs.Listing.{ArePaid, pay_by_each, pays_by}
use Rattle.search_witnesses.proofs.Comings.{at_most_arrivals, those_between}

pays : (rule : ArrivalRule) (xs : List Arrival) (from until : ℕ) → from ≤ until
    → pays_by rule xs from until ≡ true
    → comings xs rule.routine from (until - from) * rule.period ≤ until - from
pays rule xs from until low pay =
    let end : from + (until - from) ≡ until = omega (arith, low) in
    let most : comings xs rule.routine from (until - from)
    ≤ length (those_between xs rule.routine from until) =
    subst (λ t. comings xs rule.routine from (until - from)
    ≤ length (those_between xs rule.routine from t)) end
    (at_most_arrivals xs rule.routine from (until - from)) in
    let high = mul-le (comings xs rule.routine from (until - from)) rule.period
    (length (those_between xs rule.routine from until)) rule.period most (omega arith) in
    let paid = leb-true (length (those_between xs rule.routine from until) * rule.period)
    (until - from) pay in
    omega (arith, high, paid)

pub all_paid : (rules : List ArrivalRule) (xs : List Arrival) (from until : ℕ) → from ≤ until
    → pay_by_each rules xs from until ≡ true → ArePaid rules xs from until
all_paid [] xs from until low pay n = omega arith
all_paid (rule ∷ rules) xs from until low pay zero =
    pays rule xs from until low
    (and_split (pays_by rule xs from until) (pay_by_each rules xs from until) pay).0
all_paid (rule ∷ rules) xs from until low pay (suc n) =
    all_paid rules xs from until low
    (and_split (pays_by rule xs from until) (pay_by_each rules xs from until) pay).1 n
