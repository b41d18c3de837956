-- The routine that starts, by one routine more before those that were looked at.
use Rattle.std.proofs.Common.{◌≡◌, ℕ, zero, suc, ◌+◌, ◌-◌, ◌<◌, ◌≤◌, Bool, true, false, nat_le, cond, List, [], ◌∷◌, ◌++◌, drop, get_or, length, refl, sym, ◌∙◌, ap, subst, arith, inl, inr}
use Rattle.std.specs.Prelude.{Option, Some, None}
use Rattle.std.specs.List.{find}
use Rattle.std.proofs.Math.Seq.{drop-cons}
use Rattle.std.proofs.Math.ListN.{drop_of_length-le}
use Rattle.std.proofs.Math.Numerals.{add-one}
use Rattle.std.proofs.lemmas.List.{length-append}
use Rattle.std.proofs.lemmas.Bool.{true≢false, false≢true, cases_lt}
use Rattle.osek_base.specs.Lists.{below, foremost}
use Rattle.osek_base.proofs.ForemostLemmas.{better, best, foremost-best}

abbrev pub rank_of : (ℕ → ℕ) → Option ℕ → ℕ
rank_of rank None = 0
rank_of rank (Some i) = rank i

-- the best of some numbers, with its rank
pub record IsBest (test : ℕ → Bool) (rank : ℕ → ℕ) (numbers : List ℕ) (found : Option ℕ) (greatest : ℕ) : Type 0 where
  pub found_is : found ≡ best test rank numbers
  pub greatest_is : greatest ≡ rank_of rank found

module _ (test : ℕ → Bool) (rank : ℕ → ℕ) where
  pub best_none : IsBest test rank [] None 0
  best_none = record { found_is = refl; greatest_is = refl }

  -- a number in front that doesn't pass
  pub best_same : (x : ℕ) (rest : List ℕ) (found : Option ℕ) (greatest : ℕ) → IsBest test rank rest found greatest
      → test x ≡ false → IsBest test rank (x ∷ rest) found greatest
  best_same x rest found greatest b fails = record { found_is = b.found_is ∙ go (test x) fails; greatest_is = b.greatest_is }
    where
      go : (t : Bool) → t ≡ false → best test rank rest ≡ better rank t x (best test rank rest)
      go false e = refl
      go true e = absurd (true≢false e)

  -- one that is worse than the best
  pub best_worse : (x : ℕ) (rest : List ℕ) (found : Option ℕ) (greatest : ℕ) → IsBest test rank rest found greatest
      → rank x < greatest → IsBest test rank (x ∷ rest) found greatest
  best_worse x rest found greatest b low =
      record { found_is = go (test x) (best test rank rest) found b.found_is b.greatest_is; greatest_is = b.greatest_is }
    where
      go : (t : Bool) (o found : Option ℕ) → found ≡ o → greatest ≡ rank_of rank found → found ≡ better rank t x o
      go false o f h k = h
      go true None f h k = absurd (let none : greatest ≡ 0 = k ∙ ap (rank_of rank) h in omega (arith, none, low))
      go true (Some y) f h k =
          let at : greatest ≡ rank y = k ∙ ap (rank_of rank) h in
          let worse : nat_le (rank y) (rank x) ≡ false = grind (arith, at, low) in
          subst (λ v. f ≡ cond v (Some x) (Some y)) (sym worse) h

  -- one that passes, and is no worse than the best
  pub best_better : (x : ℕ) (rest : List ℕ) (found : Option ℕ) (greatest : ℕ) → IsBest test rank rest found greatest
      → test x ≡ true → greatest ≤ rank x → IsBest test rank (x ∷ rest) (Some x) (rank x)
  best_better x rest found greatest b passes above =
      record { found_is = go (test x) passes (best test rank rest) found b.found_is b.greatest_is; greatest_is = refl }
    where
      go : (t : Bool) → t ≡ true → (o found : Option ℕ) → found ≡ o → greatest ≡ rank_of rank found → Some x ≡ better rank t x o
      go false e o f h k = absurd (false≢true e)
      go true e None f h k = refl
      go true e (Some y) f h k =
          let at : greatest ≡ rank y = k ∙ ap (rank_of rank) h in
          let no_worse : nat_le (rank y) (rank x) ≡ true = grind (arith, at, above) in
          subst (λ v. Some x ≡ cond v (Some x) (Some y)) (sym no_worse) refl

  -- all numbers were looked at
  pub best_all : (numbers : List ℕ) (found : Option ℕ) (greatest : ℕ) → IsBest test rank numbers found greatest
      → found ≡ foremost test rank numbers
  best_all numbers found greatest b = b.found_is ∙ sym (foremost-best test rank numbers)

  -- none passes
  pub foremost_nowhere : ((i : ℕ) → test i ≡ false) → (numbers : List ℕ) → foremost test rank numbers ≡ None
  foremost_nowhere fails numbers = foremost-best test rank numbers ∙ go numbers
    where
      go : (xs : List ℕ) → best test rank xs ≡ None
      go [] = refl
      go (x ∷ xs) = ap (λ t. better rank t x (best test rank xs)) (fails x) ∙ go xs

-- ---- numbers below a limit

length-below : (n : ℕ) → length (below n) ≡ n
length-below zero = refl
length-below (suc n) = length-append (below n) (n ∷ []) ∙ (ap (λ m. m + 1) (length-below n) ∙ add-one n)

last_below : (n i : ℕ) → i < n → get_or (below n) i 0 ≡ i
last_below zero i low = absurd (omega arith)
last_below (suc n) i low = elim (cases_lt i n) [
  | inl lt ↦ get_or_front (below n) (n ∷ []) i (omega (arith, length-below n)) ∙ last_below n i lt
  | inr ge ↦ (let e : i ≡ n = omega arith in rw e (get_or_last (below n) n n (length-below n)))
]
  where
    get_or_front : (xs ys : List ℕ) (k : ℕ) → k < length xs → get_or (xs ++ ys) k 0 ≡ get_or xs k 0
    get_or_front [] ys k low = absurd (omega arith)
    get_or_front (x ∷ xs) ys zero low = refl
    get_or_front (x ∷ xs) ys (suc k) low = get_or_front xs ys k (omega arith)

    get_or_last : (xs : List ℕ) (x k : ℕ) → length xs ≡ k → get_or (xs ++ x ∷ []) k 0 ≡ x
    get_or_last [] x zero e = refl
    get_or_last [] x (suc k) e = absurd (omega arith)
    get_or_last (y ∷ xs) x zero e = absurd (omega arith)
    get_or_last (y ∷ xs) x (suc k) e = get_or_last xs x k (omega arith)

-- one number more, from the end
pub below_before : (n k : ℕ) → k < n → drop k (below n) ≡ k ∷ drop (k + 1) (below n)
below_before n k low =
    drop-cons (below n) k 0 (omega (arith, length-below n))
    ∙ ap (λ v. v ∷ drop (suc k) (below n)) (last_below n k low)
    ∙ ap (λ j. k ∷ drop j (below n)) (sym (add-one k))

-- the number before k, in front of those from k on
pub drop_before : (n k : ℕ) → 0 < k → k ≤ n → drop (k - 1) (below n) ≡ (k - 1) ∷ drop k (below n)
drop_before n k above within =
    let e : k - 1 + 1 ≡ k = omega arith in
    below_before n (k - 1) (omega arith) ∙ ap (λ j. (k - 1) ∷ drop j (below n)) e

pub below_none : (n : ℕ) → drop n (below n) ≡ []
below_none n = let e : length (below n) ≤ n = omega (arith, length-below n) in drop_of_length-le (below n) e

-- ---- the first number that passes

module _ (p : ℕ → Bool) (n k : ℕ) where
  pub first_here : k < n → p k ≡ true → find p (drop k (below n)) ≡ Some k
  first_here low passes = ap (find p) (below_before n k low) ∙ rw passes refl

  pub first_later : k < n → p k ≡ false → find p (drop k (below n)) ≡ find p (drop (k + 1) (below n))
  first_later low fails = ap (find p) (below_before n k low) ∙ rw fails refl

  pub first_nowhere : k ≡ n → find p (drop k (below n)) ≡ None
  first_nowhere e = ap (λ j. find p (drop j (below n))) e ∙ ap (find p) (below_none n)
