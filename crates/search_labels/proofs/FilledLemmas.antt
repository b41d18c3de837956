-- A list whose places are filled by number, from the first on.
use Rattle.std.proofs.Common.{◌≡◌, ℕ, ◌+◌, ◌<◌, List, [], ◌∷◌, ◌++◌, map, take, set, length, sym, ◌∙◌, ap, arith}
use Rattle.std.proofs.Math.Numerals.{add-one}
use Rattle.std.proofs.lemmas.List.{map-append, take_all, take_more_set}
use Rattle.osek_base.specs.Lists.{below}

module _ {X : Type 0} (f : ℕ → X) (n : ℕ) (xs : List X) where
  -- one more is filled
  pub one_more : take n xs ≡ map f (below n) → n < length xs → (x : X) → x ≡ f n
      → take (n + 1) (set xs n x) ≡ map f (below (n + 1))
  one_more h low x e =
      take_more_set xs n x low ∙ ap (λ v. v ++ x ∷ []) h ∙ ap (λ y. map f (below n) ++ y ∷ []) e
      ∙ sym (map-append f (below n) (n ∷ [])) ∙ ap (λ m. map f (below m)) (sym (add-one n))

  -- all are
  pub all_of : take n xs ≡ map f (below n) → length xs ≡ n → xs ≡ map f (below n)
  all_of h long = sym (take_all n xs (omega (arith, long))) ∙ h
