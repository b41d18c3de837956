-- Bytes that are all zeros.
use Rattle.std.proofs.Common.{ℕ, ◌≡◌, ◌≤◌, ◌<◌, ◌+◌, List, [], ◌∷◌, ◌++◌, cond, get_or, length, take, arith, refl, sym, ◌∙◌, ap}
use Rattle.std.specs.Prelude.{Option, None}
use Rattle.std.specs.List.{flat_map}
use Rattle.std.proofs.lemmas.Bool.{eq-eqb}
use Rattle.std.proofs.lemmas.Grind.{flat_map-append}
use Rattle.std.proofs.lemmas.List.{append-nil, take_more}
use Rattle.search_keys.specs.Bytes.{digits, number, optional}
use Rattle.search_keys.specs.Counts.{count_bytes}
use Rattle.law_figures.specs.Holding.{Hold}
use Rattle.search_packed.specs.Packed.{bare, count_beside, hold_bytes, listed_beside, put_bare}

-- they may as well be left out
pub zeros_go : (xs zeros : List ℕ) → bare zeros ≡ [] → bare (xs ++ zeros) ≡ bare xs
unfolding bare
zeros_go [] zeros none = none
zeros_go (x ∷ xs) zeros none = ap (put_bare x) (zeros_go xs zeros none)

pub both_zero : (xs ys : List ℕ) → bare xs ≡ [] → bare ys ≡ [] → bare (xs ++ ys) ≡ []
both_zero xs ys one other = zeros_go xs ys other ∙ one

-- ---- one by one

zero_count : bare (count_bytes 0) ≡ []
unfolding bare count_bytes digits
zero_count = refl

as_many_zero : (n : ℕ) → bare (count_beside n n) ≡ []
as_many_zero n =
    ap (λ b. bare (cond b (count_bytes 0) (count_bytes 1 ++ count_bytes n))) (eq-eqb n n refl)
    ∙ zero_count

module _ {X : Type 0} (bytes : X → List ℕ) where
  one_more : (xs : List X) (x : X) → bare (flat_map bytes xs) ≡ [] → bare (bytes x) ≡ []
      → bare (flat_map bytes (xs ++ x ∷ [])) ≡ []
  one_more xs x before here =
      ap bare (flat_map-append bytes xs (x ∷ []) ∙ ap (λ v. flat_map bytes xs ++ v) (append-nil (bytes x)))
      ∙ both_zero (flat_map bytes xs) (bytes x) before here

  -- the step of a loop
  pub next_zero : (xs : List X) (i : ℕ) (d : X) → i < length xs
      → bare (flat_map bytes (take i xs)) ≡ [] → bare (bytes (get_or xs i d)) ≡ []
      → bare (flat_map bytes (take (i + 1) xs)) ≡ []
  next_zero xs i d inside before here =
      ap (λ v. bare (flat_map bytes v)) (take_more xs i d inside)
      ∙ one_more (take i xs) (get_or xs i d) before here

  pub list_beside_zero : (others : ℕ) (xs : List X) → length xs ≡ others
      → bare (flat_map bytes xs) ≡ [] → bare (listed_beside others bytes xs) ≡ []
  list_beside_zero others xs as_many none =
      both_zero (count_beside others (length xs)) (flat_map bytes xs)
      (ap (λ n. bare (count_beside n (length xs))) (sym as_many) ∙ as_many_zero (length xs)) none

-- ---- each kind of things

zero_number : bare (number 0) ≡ []
unfolding bare number digits
zero_number = refl

pub number_zero : (n : ℕ) → n ≤ 0 → bare (number n) ≡ []
number_zero n none =
    let is_zero : n ≡ 0 = omega (arith, none) in
    ap (λ m. bare (number m)) is_zero ∙ zero_number

pub none_zero : bare (optional number None) ≡ []
unfolding bare
none_zero = refl

pub free_zero : (hold : Hold) → hold.held ≤ 0 → hold.holder ≡ None → bare (hold_bytes hold) ≡ []
free_zero hold none nobody =
    ap (λ (h : Option ℕ). bare (optional number h ++ number hold.held)) nobody
    ∙ both_zero (optional number None) (number hold.held) none_zero (number_zero hold.held none)

pub no_bytes : bare [] ≡ []
unfolding bare
no_bytes = refl
