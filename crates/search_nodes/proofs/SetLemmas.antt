-- Sets of routines.
use Rattle.std.proofs.Common.{ℕ, zero, suc, ◌≡◌, ◌≢◌, ◌<◌, ◌≤◌, ◌+◌, ◌^◌, arith, inl, inr, bit_and, w64, Bool, true, false, List, [], ◌∷◌, ◌++◌, refl, sym, ◌∙◌, ap, subst, cond, add-one, append-nil}
use Rattle.std.specs.Int.{bit_at, bit_not}
use Rattle.std.specs.List.{All, filter}
use Rattle.std.proofs.lemmas.Bool.{cases_eq}
use Rattle.std.proofs.lemmas.Nat.Bits.{bit_at-lt, bit_at_and, bit_at_not}
use Rattle.std.specs.Prelude.{Result, Ok, Err, OnOk, length}
use Rattle.std.proofs.lemmas.List.{length-append}
use Rattle.std.proofs.lemmas.List.Sums.{length-filter, count_by-le-length}
use Rattle.std.proofs.lemmas.List.Elements.{filter-append, All-filter, All-push, All-weaker}
use Rattle.osek_base.specs.Lists.{below}

one_of : (p : ℕ → Bool) (n : ℕ) (b : Bool) → p n ≡ b → filter p (n ∷ []) ≡ (cond b (n ∷ []) [])
one_of p n b is = ap (λ c. cond c (n ∷ []) []) is

next_below : (n : ℕ) → below (n + 1) ≡ below n ++ n ∷ []
next_below n = ap below (add-one n)

pub taken : (p : ℕ → Bool) (n : ℕ) (xs ys : List ℕ) → xs ≡ filter p (below n) → p n ≡ true
    → ys ≡ xs ++ n ∷ []
    → ys ≡ filter p (below (n + 1))
taken p n xs ys are is more =
    more ∙ ap (λ zs. zs ++ n ∷ []) are
    ∙ sym (ap (filter p) (next_below n) ∙ filter-append p (below n) (n ∷ [])
    ∙ ap (λ zs. filter p (below n) ++ zs) (one_of p n true is))

pub left_out : (p : ℕ → Bool) (n : ℕ) (xs : List ℕ) → xs ≡ filter p (below n) → p n ≡ false
    → xs ≡ filter p (below (n + 1))
left_out p n xs are is =
    are
    ∙ sym (ap (filter p) (next_below n) ∙ filter-append p (below n) (n ∷ [])
    ∙ ap (λ zs. filter p (below n) ++ zs) (one_of p n false is) ∙ append-nil (filter p (below n)))

all_low : (n : ℕ) → All (λ i. i < n) (below n)
all_low zero = λ k d low. absurd (omega (arith, low))
all_low (suc n) =
    All-push (λ i. i < suc n) (below n) n
    (All-weaker (λ i. i < n) (λ i. i < suc n) (λ i low. omega (arith, low)) (below n)
    (all_low n)) (omega arith)

many : (n : ℕ) → length (below n) ≡ n
many zero = refl
many (suc n) = length-append (below n) (n ∷ []) ∙ (ap (λ m. m + 1) (many n) ∙ add-one n)

pub are_known : {A E : Type 0} (r : Result A E) (p : ℕ → Bool) (count : ℕ) (xs : List ℕ)
    → OnOk r (xs ≡ filter p (below count))
    → OnOk r (All (λ i. i < count) xs)
are_known (Ok a) p count xs same =
    subst (All (λ i. i < count)) (sym same)
    (All-filter p (λ i. i < count) (below count) (all_low count))
are_known (Err e) p count xs none = none

pub are_few : {A E : Type 0} (r : Result A E) (p : ℕ → Bool) (count most : ℕ) (xs : List ℕ)
    → count ≤ most
    → OnOk r (xs ≡ filter p (below count)) → OnOk r (length xs ≤ most)
are_few (Ok a) p count most xs low same =
    let one : length xs ≡ length (filter p (below count)) = ap length same in
    let two = length-filter p (below count) in
    let three = count_by-le-length p (below count) in
    let four = many count in
    omega (arith, low, one, two, three, four)
are_few (Err e) p count most xs low none = none

-- ---- bits

pub in_both : (set other i : ℕ) → bit_at set i ≡ 1 → bit_at other i ≡ 1
    → bit_at (bit_and set other) i ≡ 1
in_both set other i one two = let both = bit_at_and set other i in omega (arith, both, one, two)

pub in_first : (set other i : ℕ) → bit_at (bit_and set other) i ≡ 1 → bit_at set i ≡ 1
in_first set other i is =
    let both = bit_at_and set other i in
    let low = bit_at-lt set i in
    omega (arith, both, is, low)

-- what is not left over is in the other
pub left_over : (set other : ℕ) → other < 2 ^ 64 → (i : ℕ) → i < 64 → bit_at set i ≡ 1
    → bit_at (bit_and set (bit_not w64 other)) i ≢ 1 → bit_at other i ≡ 1
left_over set other fits i inside has isnt = elim (cases_eq (bit_at other i) 1) [
  | inl is ↦ is
  | inr none ↦
      let both = bit_at_and set (bit_not w64 other) i in
      let turned = bit_at_not w64 other i fits inside in
      let low = bit_at-lt other i in
      absurd (isnt (omega (arith, both, turned, low, none, has)))
]
