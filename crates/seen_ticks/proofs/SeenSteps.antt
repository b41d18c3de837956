-- One number more of those gone over, and what stands at each number.
use Rattle.std.proofs.Common.{◌≡◌, ℕ, zero, suc, ◌+◌, ◌<◌, List, [], ◌∷◌, get_or, map, length, refl, sym, ◌∙◌, ap, arith, inl, inr}
use Rattle.std.proofs.Math.Numerals.{add-one}
use Rattle.std.proofs.lemmas.Bool.{cases_eq}
use Rattle.std.proofs.lemmas.List.{get_or_push, get_or_append_left, map-append, length-append, length-map}
use Rattle.osek_base.specs.Lists.{below}

length_below : (n : ℕ) → length (below n) ≡ n
length_below zero = refl
length_below (suc n) = length-append (below n) (n ∷ []) ∙ (ap (λ m. m + 1) (length_below n) ∙ add-one n)

module _ {X : Type 0} (f : ℕ → X) (n : ℕ) where
  pub seen_count : (xs : List X) → xs ≡ map f (below n) → length xs ≡ n
  seen_count xs h = ap (λ (v : List X). length v) h ∙ length-map (below n) f ∙ length_below n

module _ {X : Type 0} (f : ℕ → X) where
  at_below : (n i : ℕ) (d : X) → i < n → get_or (map f (below n)) i d ≡ f i
  at_below zero i d low = absurd (omega arith)
  at_below (suc n) i d low =
      let long = seen_count f n (map f (below n)) refl in
      ap (λ (xs : List X). get_or xs i d) (map-append f (below n) (n ∷ []))
      ∙ elim (cases_eq i n) [
        | inl e ↦ get_or_push (map f (below n)) (f n) d i (omega (arith, long, e)) ∙ ap f (sym e)
        | inr ne ↦ get_or_append_left (map f (below n)) (f n ∷ []) d i (omega (arith, long, ne, low)) ∙ at_below n i d (omega (arith, ne, low))
      ]

-- what is read at a place of a list of what is seen of each number
pub read_at : {X : Type 0} (f : ℕ → X) (n : ℕ) (xs items : List X) (i k : ℕ) (d : X) → xs ≡ items → items ≡ map f (below n) → i ≡ k → k < n
    → get_or xs i d ≡ f k
read_at f n xs items i k d same h is low =
    ap (λ v. get_or v i d) (same ∙ h) ∙ ap (λ j. get_or (map f (below n)) j d) is ∙ at_below f n k d low

pub inside : {X : Type 0} (f : ℕ → X) (n : ℕ) (xs items : List X) (i k : ℕ) → xs ≡ items → items ≡ map f (below n) → i ≡ k → k < n
    → i < length xs
inside f n xs items i k same h is low =
    let long = seen_count f n xs (same ∙ h) in
    omega (arith, long, is, low)
