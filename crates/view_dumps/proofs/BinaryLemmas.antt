-- The digits of a byte in binary.
use Rattle.std.proofs.Common.{◌≡◌, ℕ, zero, suc, ◌+◌, ◌/◌, ◌%◌, ◌<◌, ◌≤◌, ◌==◌, Bool, true, false, ◌&&◌, bytes_eq, nat_le, nat_lt, cond, List, [], ◌∷◌, ◌++◌, length, length-append, refl, sym, ap, subst, ◌∙◌, append_assoc, arith}
use Rattle.std.proofs.lemmas.Bool.{eqb-true, leb-true}
use Rattle.std.proofs.lemmas.Bool.Decides.{nat_tests}
use Rattle.std.proofs.lemmas.Slice.Eq.{bytes_eq-Decides}
use Rattle.std.specs.Fmt.{digits}
use Rattle.osek_base.proofs.PlaceLemmas.{and_split}
use Rattle.view_dumps.specs.Lines.{binary}

-- a number has its last three digits behind those of its eighth, if that isn't 0, and at most eight digits
abbrev split : ℕ → List ℕ
split n =
    cond (nat_lt n 2) ((48 + n) ∷ [])
    (cond (nat_lt n 4) (49 ∷ (48 + n % 2) ∷ [])
    (cond (nat_lt n 8) (49 ∷ (48 + n / 2 % 2) ∷ (48 + n % 2) ∷ [])
    (digits 2 false (n / 8) ++ (48 + n / 4 % 2) ∷ (48 + n / 2 % 2) ∷ (48 + n % 2) ∷ [])))

is_split : ℕ → Bool
is_split n = bytes_eq (digits 2 false n) (split n) && nat_le (length (digits 2 false n)) 8

are_all : (ℕ → Bool) → ℕ → Bool
are_all test zero = true
are_all test (suc n) = are_all test n && test n

tried : are_all is_split 256 ≡ true
unfolding digits is_split are_all
tried = refl

all_at : (test : ℕ → Bool) (n k : ℕ) → are_all test n ≡ true → k < n → test k ≡ true
unfolding are_all
all_at test zero k h below = absurd (omega arith)
all_at test (suc n) k h below =
    let parts = and_split (are_all test n) (test n) h in
    let go : (t : Bool) → k == n ≡ t → test k ≡ true =
    λ t. elim t as (λ b. k == n ≡ b → test k ≡ true) [
      | true ↦ λ e. subst (λ m. test m ≡ true) (sym (eqb-true k n e)) parts.1
      | false ↦ λ e. all_at test n k parts.0 (grind (arith, nat_tests))
    ] in
    go (k == n) refl

record IsSplit (n : ℕ) : Type 0 where
  same : binary n ≡ split n
  short : length (binary n) ≤ 8

found : (n : ℕ) → n < 256 → IsSplit n
unfolding is_split
found n h =
    let parts = and_split (bytes_eq (binary n) (split n)) (nat_le (length (binary n)) 8) (all_at is_split 256 n tried h) in
    record { same = (bytes_eq-Decides (binary n) (split n)).0 parts.0; short = leb-true (length (binary n)) 8 parts.1 }

pub binary_one : (n : ℕ) → n < 2 → binary n ≡ (48 + n) ∷ []
binary_one n h = let e : nat_lt n 2 ≡ true = grind (arith, nat_tests) in (found n (omega (arith, h))).same ∙ rw e refl

pub binary_two : (n : ℕ) → 2 ≤ n → n < 4 → binary n ≡ 49 ∷ (48 + n % 2) ∷ []
binary_two n more h =
    let a : nat_lt n 2 ≡ false = grind (arith, nat_tests) in
    let b : nat_lt n 4 ≡ true = grind (arith, nat_tests) in
    (found n (omega (arith, h))).same ∙ rw (a, b) refl

pub binary_three : (n : ℕ) → 4 ≤ n → n < 8 → binary n ≡ 49 ∷ (48 + n / 2 % 2) ∷ (48 + n % 2) ∷ []
binary_three n more h =
    let a : nat_lt n 2 ≡ false = grind (arith, nat_tests) in
    let b : nat_lt n 4 ≡ false = grind (arith, nat_tests) in
    let c : nat_lt n 8 ≡ true = grind (arith, nat_tests) in
    (found n (omega (arith, h))).same ∙ rw (a, b, c) refl

binary_more : (n : ℕ) → 8 ≤ n → n < 256 → binary n ≡ binary (n / 8) ++ (48 + n / 4 % 2) ∷ (48 + n / 2 % 2) ∷ (48 + n % 2) ∷ []
binary_more n more h =
    let a : nat_lt n 2 ≡ false = grind (arith, nat_tests) in
    let b : nat_lt n 4 ≡ false = grind (arith, nat_tests) in
    let c : nat_lt n 8 ≡ false = grind (arith, nat_tests) in
    (found n h).same ∙ rw (a, b, c) refl

-- so these are pushed behind those of an eighth, which leave room for them
pub more_pushed : (old front whole : List ℕ) (n : ℕ) → 8 ≤ n → n < 256 → front ≡ old ++ binary (n / 8)
    → whole ≡ front ++ (48 + n / 4 % 2) ∷ (48 + n / 2 % 2) ∷ (48 + n % 2) ∷ [] → whole ≡ old ++ binary n
more_pushed old front whole n more h e w =
    let end : List ℕ = (48 + n / 4 % 2) ∷ (48 + n / 2 % 2) ∷ (48 + n % 2) ∷ [] in
    w ∙ ap (λ l. l ++ end) e ∙ append_assoc old (binary (n / 8)) end ∙ ap (λ l. old ++ l) (sym (binary_more n more h))

pub front_room : (old front : List ℕ) (n : ℕ) → 8 ≤ n → n < 256 → front ≡ old ++ binary (n / 8) → length front + 3 ≤ length old + 8
front_room old front n more h e =
    let short = (found n h).short in
    let whole =
    ap (λ (l : List ℕ). length l) (binary_more n more h)
    ∙ length-append (binary (n / 8)) ((48 + n / 4 % 2) ∷ (48 + n / 2 % 2) ∷ (48 + n % 2) ∷ []) in
    let part = ap (λ (l : List ℕ). length l) e ∙ length-append old (binary (n / 8)) in
    omega (arith, short, whole, part)
