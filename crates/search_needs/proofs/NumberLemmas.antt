-- Sets of numbers below 64 as words.
use Rattle.std.proofs.Common.{ℕ, zero, suc, ◌≡◌, ◌<◌, ◌≤◌, ◌-◌, ◌*◌, ◌%◌, ◌^◌, ◌==◌, nat_lt, IsTrue, refl, sym, ◌∙◌, ap, arith, ◌⊎◌, inl, inr, bit_or, bit_and}
use Rattle.std.specs.Prelude.{max, min}
use Rattle.std.specs.Int.{bit_at}
use Rattle.std.proofs.lemmas.Nat.Bits.{bit_at_or, bit_at_and, bit_at-lt, bit_at-zero, bit_at_ones, bit_at_ones_above}
use Rattle.std.proofs.lemmas.Bool.{eqb-true, cases_lt, lt-ltb, le-ltb}
use Rattle.std.proofs.Math.Nat.{mod-eq_of_lt}
use Rattle.std.proofs.Math.Pow.{pow-lt}
use Rattle.search_needs.specs.Table.{has}

one_of : (x : ℕ) → x < 2 → max 1 x ≡ 1
one_of zero low = refl
one_of (suc zero) low = refl
one_of (suc (suc x)) low = absurd (omega (arith, low))

in_it : (word n : ℕ) → IsTrue (has word n) → bit_at word n ≡ 1
in_it word n h = eqb-true (bit_at word n) 1 h

is_in : (word n : ℕ) → bit_at word n ≡ 1 → IsTrue (has word n)
is_in word n e = ap (λ b. b == 1) e

-- a set that adds nothing to another is within it
pub within : (a b n : ℕ) → IsTrue (bit_or a b == b) → IsTrue (has a n) → IsTrue (has b n)
within a b n same h =
    is_in b n
    (sym (ap (λ w. bit_at w n) (eqb-true (bit_or a b) b same)) ∙ bit_at_or a b n
    ∙ ap (λ x. max x (bit_at b n)) (in_it a n h) ∙ one_of (bit_at b n) (bit_at-lt b n))

-- sets with no number in common
pub apart : (a b n : ℕ) → IsTrue (bit_and a b == 0) → IsTrue (has a n) → IsTrue (has b n) → ⊥
apart a b n none h k =
    let one : bit_at (bit_and a b) n ≡ 1 =
    bit_at_and a b n ∙ ap (λ x. min x (bit_at b n)) (in_it a n h) ∙ ap (min 1) (in_it b n k) in
    let zero_there : bit_at (bit_and a b) n ≡ 0 = ap (λ w. bit_at w n) (eqb-true (bit_and a b) 0 none) ∙ bit_at-zero n in
    omega (arith, one, zero_there)

-- the numbers below another
pub all_below : (k n : ℕ) → has (2 ^ k - 1) n ≡ nat_lt n k
all_below k n = go (cases_lt n k)
  where
    go : (n < k) ⊎ (k ≤ n) → has (2 ^ k - 1) n ≡ nat_lt n k
    go (inl low) = ap (λ b. b == 1) (bit_at_ones k n low) ∙ sym (lt-ltb n k low)
    go (inr high) = ap (λ b. b == 1) (bit_at_ones_above k n high) ∙ sym (le-ltb n k high)

-- its word, as it is shifted
pub word_below : (k : ℕ) → k ≤ 64 → (k ≡ 64 → ⊥) → 1 * 2 ^ k % 2 ^ 64 - 1 ≡ 2 ^ k - 1
word_below k most other =
    let low : k < 64 = omega (arith, most, other) in
    let once : 1 * 2 ^ k ≡ 2 ^ k = omega arith in
    ap (λ w. w - 1) (ap (λ w. w % 2 ^ 64) once ∙ mod-eq_of_lt (pow-lt low))
