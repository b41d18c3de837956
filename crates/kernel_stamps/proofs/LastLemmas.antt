-- Levels of which none has executed since a tick.
use Rattle.std.proofs.Common.{ℕ, zero, suc, ◌≡◌, ◌<◌, ◌≤◌, refl, ap, ◌∙◌, false, ◌||◌, nat_lt, List, [], ◌∷◌, replicate, slice_index_or, take, arith}
use Rattle.std.proofs.lemmas.Bool.{le-ltb}
use Rattle.std.specs.List.{list_any}

-- none of the first of some numbers is greater than a bound
pub none_since : (tick n : ℕ) (xs : List ℕ) → ((l : ℕ) → l < n → slice_index_or xs l 0 ≤ tick)
    → list_any (λ after. nat_lt tick after) (take n xs) ≡ false
none_since tick zero xs low = refl
none_since tick (suc n) [] low = refl
none_since tick (suc n) (x ∷ xs) low =
    let rest : list_any (λ after. nat_lt tick after) (take n xs) ≡ false = none_since tick n xs (λ l inside. low (suc l) (omega (arith, inside))) in
    let first : x ≤ tick = low 0 (omega arith) in
    let here : nat_lt tick x ≡ false = le-ltb tick x first in
    ap (λ b. b || list_any (λ after. nat_lt tick after) (take n xs)) here ∙ rest

-- where none has executed
pub zeros : (n l : ℕ) → slice_index_or (replicate n 0) l 0 ≤ 0
zeros zero l = omega arith
zeros (suc n) zero = omega arith
zeros (suc n) (suc l) = zeros n l
