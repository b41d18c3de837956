-- One more element of a sum that stops at the greatest number.
use Rattle.std.proofs.Common.{ℕ, ◌≡◌, ◌+◌, List, ◌∷◌, Bool, cond, sym, ◌∙◌, ap, arith}
use Rattle.std.specs.List.{sum_by, count_by}
use Rattle.std.proofs.lemmas.List.Sums.{sum_by-cons}
use Rattle.view_figures.specs.Counts.{capped}

capped_more : (n m : ℕ) → capped (capped n + m) ≡ capped (m + n)
capped_more n m = omega arith

pub sum_more : {X : Type 0} (f : X → ℕ) (x : X) (xs : List X) (old : ℕ) → old ≡ capped (sum_by f xs)
    → capped (old + f x) ≡ capped (sum_by f (x ∷ xs))
sum_more f x xs old e =
    ap (λ n. capped (n + f x)) e ∙ capped_more (sum_by f xs) (f x) ∙ sym (ap capped (sum_by-cons f x xs))

pub count_more : {X : Type 0} (p : X → Bool) (x : X) (xs : List X) (old : ℕ) → old ≡ capped (count_by p xs)
    → capped (old + cond (p x) 1 0) ≡ capped (count_by p (x ∷ xs))
count_more p x xs old e = sum_more (λ y. cond (p y) 1 0) x xs old e
