-- What holds of each of the first numbers, and elements of lists by their numbers.
use Rattle.std.proofs.Common.{ℕ, zero, suc, ◌≡◌, ◌<◌, ◌≤◌, ◌+◌, List, [], ◌∷◌, ◌++◌, length, slice_get, refl, sym, ◌∙◌, ap, subst, arith, inl, inr, ◌⊎◌, not-suc-le-zero, le_of_suc-le-suc, get_or}
use Rattle.std.specs.Prelude.{Option, Some, None, slice_index_or, map}
use Rattle.std.proofs.lemmas.Bool.{cases_lt}
use Rattle.law_runs.proofs.Lists.{none_some, some_inside}

-- one number more
pub below_more : (P : ℕ → Type 0) (n : ℕ) → ((k : ℕ) → k < n → P k) → P n → (k : ℕ) → k < n + 1
    → P k
below_more P n each last k low = go (cases_lt k n)
  where
    go : (k < n) ⊎ (n ≤ k) → P k
    go (inl below) = each k below
    go (inr past) = subst P (omega (arith, low, past)) last

-- an element within a list, whatever stands for one beyond
pub element : {X : Type 0} (xs : List X) (i : ℕ) (x d : X) → i < length xs
    → get_or xs i x ≡ slice_index_or xs i d
element [] i x d low = absurd (not-suc-le-zero low)
element (y ∷ ys) zero x d low = refl
element (y ∷ ys) (suc i) x d low = element ys i x d (le_of_suc-le-suc low)

-- .. which is the one of that number
pub got : {X : Type 0} (xs : List X) (i : ℕ) (x y : X) → i < length xs
    → slice_get xs i ≡ Some y → get_or xs i x ≡ y
got [] i x y low h = absurd (not-suc-le-zero low)
got (z ∷ zs) zero x y low h = some_inside z y h
got (z ∷ zs) (suc i) x y low h = got zs i x y (le_of_suc-le-suc low) h

-- what holds of each below a number holds of each below one that is no greater
pub up_to : (P : ℕ → Type 0) (n count : ℕ) → ((k : ℕ) → k < n → P k) → count ≤ n → (k : ℕ)
    → k < count → P k
up_to P n count each less k low = each k (omega (arith, less, low))

-- ---- a list with one more at its end

at_old : {X : Type 0} (xs : List X) (x d : X) (a : ℕ) → a < length xs
    → slice_index_or xs a d ≡ slice_index_or (xs ++ x ∷ []) a d
at_old [] x d a low = absurd (not-suc-le-zero low)
at_old (y ∷ xs) x d zero low = refl
at_old (y ∷ xs) x d (suc a) low = at_old xs x d a (le_of_suc-le-suc low)

at_new : {X : Type 0} (xs : List X) (x d : X) → x ≡ slice_index_or (xs ++ x ∷ []) (length xs) d
at_new [] x d = refl
at_new (y ∷ xs) x d = at_new xs x d

longer : {X : Type 0} (xs : List X) (x : X) → length (xs ++ x ∷ []) ≡ length xs + 1
longer [] x = refl
longer (y ∷ xs) x =
    let rest = longer xs x in
    omega (arith, rest)

pub grown : {X : Type 0} (P : ℕ → X → Type 0) (xs ys : List X) (d x : X) (n : ℕ)
    → ys ≡ xs ++ x ∷ [] → length xs ≡ n → ((a : ℕ) → a < n → P a (slice_index_or xs a d)) → P n x
    → (length ys ≡ n + 1) × ((a : ℕ) → a < n + 1 → P a (slice_index_or ys a d))
grown P xs ys d x n more same each last = (
  ap length more ∙ longer xs x ∙ ap (λ m. m + 1) same,
  below_more (λ a. P a (slice_index_or ys a d)) n
      (λ a low.
      subst (P a)
      (at_old xs x d a (subst (λ m. a < m) (sym same) low)
      ∙ ap (λ zs. slice_index_or zs a d) (sym more))
      (each a low))
      (subst (P n)
      (at_new xs x d ∙ ap (λ m. slice_index_or (xs ++ x ∷ []) m d) same
      ∙ ap (λ zs. slice_index_or zs n d) (sym more))
      last),
)
