-- Subsets by bits.
use Rattle.std.proofs.Common.{ℕ, zero, suc, ◌+◌, ◌-◌, ◌*◌, ◌/◌, ◌%◌, ◌^◌, min, ◌≡◌, ◌<◌, ◌≤◌, sym, ap, ◌∙◌, arith, ◌⊎◌, inl, inr, subst, bit_and, w64}
use Rattle.std.specs.Prelude.{Option, Some, None, IfSome}
use Rattle.std.specs.Int.{bit_at, bit_not}
use Rattle.std.proofs.lemmas.Bool.{cases_lt}
use Rattle.std.proofs.lemmas.Nat.{div_below, le-div, div-add-mod'}
use Rattle.std.proofs.lemmas.Nat.Bits.{bit_at-lt, bit_at_lowest, bit_at-suc, bit_at-zero, bit_at_and, bit_at_not}
use Rattle.std.proofs.Math.Nat.{two-pow-succ}
use Rattle.std.proofs.Math.Pow.{pow_mono, pow_pos}
use Rattle.search.specs.Subsets.{IsSubset, NoSubset}

below_pow : (n : ℕ) → n < 2 ^ n
below_pow zero = omega arith
below_pow (suc n) = let low = below_pow n in rw two-pow-succ (omega (arith, low))

-- ---- a subset is no greater

halves : (m whole : ℕ) → m % 2 ≤ whole % 2 → m / 2 ≤ whole / 2 → m ≤ whole
halves m whole low high = let a = div-add-mod' m 2 in let b = div-add-mod' whole 2 in omega (arith, low, high, a, b)

subset_low : (n m whole : ℕ) → m < 2 ^ n → IsSubset m whole → m ≤ whole
subset_low zero m whole low is = omega (arith, low)
subset_low (suc n) m whole low is =
    halves m whole (subst (λ k. k ≤ whole % 2) (bit_at_lowest m) (subst (λ k. bit_at m 0 ≤ k) (bit_at_lowest whole) (is 0)))
    (subset_low n (m / 2) (whole / 2)
    (div_below m 2 (2 ^ n) (omega arith) (let double = two-pow-succ n in omega (arith, low, double)))
    (λ thing. subst (λ k. k ≤ bit_at (whole / 2) thing) (bit_at-suc m thing)
    (subst (λ k. bit_at m (suc thing) ≤ k) (bit_at-suc whole thing) (is (suc thing)))))

pub subset_within : (set whole : ℕ) → IsSubset set whole → set ≤ whole
subset_within set whole = subset_low set set whole (below_pow set)

-- ---- numbers that are left out

same_quotient : (number other p : ℕ) → 0 < p → number ≤ other → other < (number / p + 1) * p → other / p ≡ number / p
same_quotient number other p some low high =
    let above = le-div (number / p) other p some (let parts = div-add-mod' number p in omega (arith, parts, low)) in
    let below = div_below other p (number / p + 1) some high in
    omega (arith, above, below)

pub none_behind : (set whole thing : ℕ) → bit_at set thing ≡ 1 → bit_at whole thing ≡ 0 → NoSubset whole set ((set / 2 ^ thing + 1) * 2 ^ thing)
none_behind set whole thing inside outside other low high is =
    let same : bit_at other thing ≡ 1 = ap (λ q. q % 2) (same_quotient set other (2 ^ thing) (pow_pos thing) low high) ∙ inside in
    let at = is thing in
    omega (arith, same, outside, at)

pub none_more : (whole from set next : ℕ) → NoSubset whole from set → NoSubset whole set next → NoSubset whole from next
none_more whole from set next first second other low high = go (cases_lt other set)
  where
    go : (other < set) ⊎ (set ≤ other) → IsSubset other whole → ⊥
    go (inl below) = first other low below
    go (inr above) = second other above high

-- none is as great as what has no place
pub none_left : (whole from end : ℕ) → whole < end → NoSubset whole from end → (set : ℕ) → from ≤ set → IsSubset set whole → ⊥
none_left whole from end high none set low is = none set low (let within = subset_within set whole is in omega (arith, within, high)) is

pub past : (n p : ℕ) → 0 < p → n < (n / p + 1) * p
past n p some = go (cases_lt n ((n / p + 1) * p))
  where
    go : (n < (n / p + 1) * p) ⊎ ((n / p + 1) * p ≤ n) → n < (n / p + 1) * p
    go (inl low) = low
    go (inr high) = absurd (let over = le-div (n / p + 1) n p some high in omega (arith, over))

-- ---- what a set has that another one hasn't

top_bit : (n k : ℕ) → 2 ^ k ≤ n → n < 2 * 2 ^ k → bit_at n k ≡ 1
top_bit n k low high =
    let some = pow_pos k in
    let above = le-div 1 n (2 ^ k) some (omega (arith, low)) in
    let below = div_below n (2 ^ k) 2 some high in
    let one : n / 2 ^ k ≡ 1 = omega (arith, above, below) in
    ap (λ q. q % 2) one

parts_of : (a b : ℕ) → a < 2 → b < 2 → min a (1 - b) ≡ 1 → (a ≡ 1) × (b ≡ 0)
parts_of a b low small is = (omega (arith, is, low, small), omega (arith, is, low, small))

no_part : (a b : ℕ) → a < 2 → b < 2 → min a (1 - b) ≡ 0 → a ≤ b
no_part a b low small is = omega (arith, is, low, small)

bit_outside : (set whole k : ℕ) → k < 64 → whole < 2 ^ 64 → bit_at (bit_and set (bit_not w64 whole)) k ≡ min (bit_at set k) (1 - bit_at whole k)
bit_outside set whole k low fits = bit_at_and set (bit_not w64 whole) k ∙ ap (min (bit_at set k)) (bit_at_not w64 whole k fits low)

pub has_outside : (set whole : ℕ) → whole < 2 ^ 64 → (o : Option ℕ) → IfSome o (λ k. k < 64) → IfSome o (λ k. 2 ^ k ≤ bit_and set (bit_not w64 whole))
    → IfSome o (λ k. bit_and set (bit_not w64 whole) < 2 * 2 ^ k) → IfSome o (λ k. (bit_at set k ≡ 1) × (bit_at whole k ≡ 0))
has_outside set whole fits None range low high = tt
has_outside set whole fits (Some k) range low high =
    parts_of (bit_at set k) (bit_at whole k) (bit_at-lt set k) (bit_at-lt whole k)
    (sym (bit_outside set whole k range fits) ∙ top_bit (bit_and set (bit_not w64 whole)) k low high)

pub none_outside : (set whole : ℕ) → set < 2 ^ 64 → whole < 2 ^ 64 → bit_and set (bit_not w64 whole) ≡ 0 → IsSubset set whole
none_outside set whole low fits none thing = go (cases_lt thing 64)
  where
    go : (thing < 64) ⊎ (64 ≤ thing) → bit_at set thing ≤ bit_at whole thing
    go (inl below) =
        no_part (bit_at set thing) (bit_at whole thing) (bit_at-lt set thing) (bit_at-lt whole thing)
        (sym (bit_outside set whole thing below fits) ∙ ap (λ n. bit_at n thing) none ∙ bit_at-zero thing)
    go (inr above) =
        let more = pow_mono above in
        let small = div_below set (2 ^ thing) 1 (pow_pos thing) (omega (arith, low, more)) in
        let zero_bit : bit_at set thing ≡ 0 = ap (λ q. q % 2) (let z : set / 2 ^ thing ≡ 0 = omega (arith, small) in z) in
        omega (arith, zero_bit)
