-- A list that is filled number by number.
use Rattle.std.proofs.Common.{◌≡◌, ℕ, zero, suc, ◌+◌, List, [], ◌∷◌, ◌++◌, map, length, refl, sym, ◌∙◌, ap}
use Rattle.std.proofs.Math.Numerals.{add-one}
use Rattle.std.proofs.lemmas.List.{map-append, length-append, length-map}
use Rattle.osek_base.specs.Lists.{below}

pub length_below : (n : ℕ) → length (below n) ≡ n
length_below zero = refl
length_below (suc n) =
    length-append (below n) (n ∷ []) ∙ (ap (λ m. m + 1) (length_below n) ∙ add-one n)

module _ {X : Type 0} (f : ℕ → X) (n : ℕ) where
  pub map_length : length (map f (below n)) ≡ n
  map_length = length-map (below n) f ∙ length_below n

  pub one_more : (xs : List X) (x : X) → xs ≡ map f (below n) → x ≡ f n
      → xs ++ x ∷ [] ≡ map f (below (n + 1))
  one_more xs x h e =
      ap (λ v. v ++ x ∷ []) h ∙ ap (λ y. map f (below n) ++ y ∷ []) e
      ∙ sym (map-append f (below n) (n ∷ [])) ∙ ap (λ m. map f (below m)) (sym (add-one n))
