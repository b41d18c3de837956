-- A list of which one element more becomes that of another list.
use Rattle.std.proofs.Common.{ℕ, zero, suc, ◌≡◌, ◌<◌, List, [], ◌∷◌, ◌++◌, length, take, drop, set, get_or, refl, ap, arith}

pub one_more : {X : Type 0} (ys xs : List X) (n : ℕ) (d : X) → length xs ≡ length ys → n < length ys
    → set (take n ys ++ drop n xs) n (get_or ys n d) ≡ take (suc n) ys ++ drop (suc n) xs
one_more [] xs n d same low = absurd (omega arith)
one_more (y ∷ ys) [] n d same low = absurd (omega arith)
one_more (y ∷ ys) (x ∷ xs) zero d same low = refl
one_more (y ∷ ys) (x ∷ xs) (suc n) d same low = ap (λ zs. y ∷ zs) (one_more ys xs n d (omega arith) (omega arith))
