-- A list whose places are filled by number, from the first on.
use Rattle.std.proofs.Common.{◌≡◌, ℕ, ◌+◌, ◌<◌, List, [], ◌∷◌, ◌++◌, map, take, set, length, sym, ◌∙◌, ap, arith}
use Rattle.std.proofs.Math.Numerals.{add-one}
use Rattle.std.proofs.lemmas.List.{append-nil, length-set, map-append, take_all, take_more_set}
use Rattle.std.proofs.Math.ListN.{drop_of_length-le}
use Rattle.std.specs.List.{refill}
use Rattle.osek_base.specs.Lists.{below}

module _ {X : Type 0} (f : ℕ → X) (n : ℕ) (xs : List X) where
  -- one more is filled
  pub one_more : take n xs ≡ map f (below n) → n < length xs → (x : X) → x ≡ f n
      → take (n + 1) (set xs n x) ≡ map f (below (n + 1))
  one_more h low x e =
      take_more_set xs n x low ∙ ap (λ v. v ++ x ∷ []) h ∙ ap (λ y. map f (below n) ++ y ∷ []) e
      ∙ sym (map-append f (below n) (n ∷ [])) ∙ ap (λ m. map f (below m)) (sym (add-one n))

  -- so it goes on in a list of some length, by the element of a number that is the next one
  pub goes_on : (k count m : ℕ) → (length xs ≡ k) × (take n xs ≡ map f (below n)) → n < count
      → count ≡ k → m ≡ n → (x : X) → x ≡ f m
      → (length (set xs n x) ≡ k) × (take (n + 1) (set xs n x) ≡ map f (below (n + 1)))
  goes_on k count m (long, h) low all is x e =
      (length-set xs n x ∙ long, one_more h (omega (arith, low, all, long)) x (e ∙ ap f is))

  -- all are
  pub all_of : take n xs ≡ map f (below n) → length xs ≡ n → xs ≡ map f (below n)
  all_of h long = sym (take_all n xs (omega (arith, long))) ∙ h

-- where all places are filled anew, what stood there is gone
pub filled_anew : {X : Type 0} (xs ws : List X) → length ws ≡ length xs → refill (length xs) xs ws ≡ ws
filled_anew xs ws long =
    ap (λ v. take (length xs) (ws ++ v)) (drop_of_length-le xs (omega (arith, long)))
    ∙ ap (take (length xs)) (append-nil ws) ∙ take_all (length xs) ws (omega (arith, long))
