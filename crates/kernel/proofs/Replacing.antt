-- A list whose elements are replaced one after another, from the first on.
use Rattle.std.proofs.Common.{◌≡◌, ℕ, ◌+◌, ◌<◌, List, [], ◌∷◌, get_or, map, take, drop, set, length, refl, sym, ◌∙◌, ap, arith}
use Rattle.std.proofs.lemmas.List.{drop-set-lt, drop_more, get_or-drop, length-set}
use Rattle.osek_base.specs.Lists.{below}
use Rattle.kernel.proofs.Filled.{one_more}

-- of so many the first n are, and those left are as they were
pub record IsReplaced {X : Type 0} (f : ℕ → X) (old : List X) (count n : ℕ) (xs : List X) : Type 0 where
  pub long : length xs ≡ count
  pub done : take n xs ≡ map f (below n)
  pub left : drop n xs ≡ drop n old

abbrev rest : {X : Type 0} → List X → List X
rest [] = []
rest (x ∷ xs) = xs

module _ {X : Type 0} (f : ℕ → X) (old : List X) (count : ℕ) where
  pub none_replaced : length old ≡ count → IsReplaced f old count 0 old
  none_replaced long = record { long = long; done = refl; left = refl }

  module _ (n : ℕ) (xs : List X) (is : IsReplaced f old count n xs) where
    -- what stands at the next place
    pub next_is : (d : X) → get_or xs n d ≡ get_or old n d
    next_is d =
        let here : n ≡ n + 0 = omega arith in
        ap (λ i. get_or xs i d) here ∙ sym (get_or-drop n xs 0 d) ∙ ap (λ v. get_or v 0 d) is.left
        ∙ get_or-drop n old 0 d ∙ sym (ap (λ i. get_or old i d) here)

    pub one_replaced : n < count → length old ≡ count → (x : X) → x ≡ f n → IsReplaced f old count (n + 1) (set xs n x)
    one_replaced low all x e =
        let long = is.long in
        record {
          long = length-set xs n x ∙ is.long;
          done = one_more f n xs is.done (omega (arith, low, long)) x e;
          left =
              drop-set-lt (n + 1) xs n x (omega arith)
              ∙ sym (ap rest (drop_more xs n x (omega (arith, low, long)))) ∙ ap rest is.left
              ∙ ap rest (drop_more old n x (omega (arith, low, all)));
        }
