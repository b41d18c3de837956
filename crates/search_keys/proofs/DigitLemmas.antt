-- The digits of a number, one by one.
use Rattle.std.proofs.Common.{ℕ, zero, suc, ◌≡◌, ◌<◌, ◌≤◌, ◌*◌, ◌+◌, ◌-◌, ◌/◌, ◌%◌, cond, List, [], ◌∷◌, ◌++◌, refl, sym, ◌∙◌, ap, subst, arith, inl, inr}
use Rattle.std.proofs.lemmas.List.{append_assoc}
use Rattle.std.proofs.lemmas.Bool.{cases_lt, lt-ltb, le-ltb}
use Rattle.search_keys.specs.Bytes.{digits, number}
use Rattle.search_keys.specs.Counts.{count_bytes}
use Rattle.search_keys.specs.Limit.{limit}

-- two pieces behind a list are one
pub joined : (old xs ys : List ℕ) → (old ++ xs) ++ ys ≡ old ++ (xs ++ ys)
joined old xs ys = append_assoc old xs ys

less : (k : ℕ) → suc k - 1 ≡ k
less k = omega arith

pub limit_step : (k n : ℕ) → (k ≡ 0 → ⊥) → n < limit k → n / 128 < limit (k - 1)
unfolding limit
limit_step zero n some low = absurd (some refl)
limit_step (suc k) n some low = subst (λ j. n / 128 < limit j) (sym (less k)) (omega (arith, low))

pub digits_zero : (k n : ℕ) → k ≡ 0 → digits k n ≡ n ∷ []
unfolding digits
digits_zero zero n none = refl
digits_zero (suc k) n none = absurd (omega (arith, none))

pub digits_last : (k n : ℕ) → n < 128 → digits k n ≡ n ∷ []
unfolding digits
digits_last zero n low = refl
digits_last (suc k) n low =
    ap (λ b. cond b (n ∷ []) ((128 + n % 128) ∷ digits k (n / 128))) (lt-ltb n 128 low)

pub number_last : (n : ℕ) → n < 128 → number n ≡ n ∷ []
unfolding number
number_last n low = digits_last 4 n low

pub count_last : (n : ℕ) → n < 128 → count_bytes n ≡ n ∷ []
unfolding count_bytes
count_last n low = digits_last 8 n low

pub digits_step : (k n : ℕ) → (k ≡ 0 → ⊥) → (n < 128 → ⊥) → (old : List ℕ)
    → (old ++ (128 + n % 128) ∷ []) ++ digits (k - 1) (n / 128) ≡ old ++ digits k n
unfolding digits
digits_step zero n some high old = absurd (some refl)
digits_step (suc k) n some high old =
    append_assoc old ((128 + n % 128) ∷ []) (digits (suc k - 1) (n / 128))
    ∙ ap (λ j. old ++ (128 + n % 128) ∷ digits j (n / 128)) (less k)
    ∙ ap (λ b. old ++ cond b (n ∷ []) ((128 + n % 128) ∷ digits k (n / 128)))
    (sym (le-ltb n 128 (omega (arith, high))))

pub limit_zero : (k n : ℕ) → k ≡ 0 → n < limit k → n < 256
unfolding limit
limit_zero zero n none low = low
limit_zero (suc k) n none low = absurd (omega (arith, none))

limit_low : (k : ℕ) → 128 ≤ limit k
unfolding limit
limit_low zero = omega arith
limit_low (suc k) = let low = limit_low k in omega (arith, low)

-- what is read is below the limit
pub byte_low : (k n : ℕ) → n < 128 → n < limit k
byte_low k n low = let at_least = limit_low k in omega (arith, low, at_least)

pub last_low : (k n : ℕ) → k ≡ 0 → n < 256 → n < limit k
unfolding limit
last_low zero n none low = low
last_low (suc k) n none low = absurd (omega (arith, none))

pub higher_low : (k n higher : ℕ) → (k ≡ 0 → ⊥) → n < 256 → higher < limit (k - 1)
    → (n - 128) + 128 * higher < limit k
unfolding limit
higher_low zero n higher some low high = absurd (some refl)
higher_low (suc k) n higher some low high =
    let below : higher < limit k = subst (λ j. higher < limit j) (less k) high in
    omega (arith, low, below)

limit_more : (k : ℕ) → limit k ≤ limit (suc k)
unfolding limit
limit_more k = omega arith

limits_rise : (k n : ℕ) → k ≤ n → limit k ≤ limit n
limits_rise k zero few = (let same : k ≡ zero = omega (arith, few) in
    subst (λ j. limit k ≤ limit j) same (omega arith))
limits_rise k (suc n) few = elim (cases_lt k (suc n)) [
  | inl below ↦ (let one = limits_rise k n (omega (arith, below)) in
      let two = limit_more n in omega (arith, one, two))
  | inr not_below ↦
      (let same : k ≡ suc n = omega (arith, few, not_below) in
      subst (λ j. limit k ≤ limit j) same (omega arith))
]

limit_eight : limit 8 ≡ 18446744073709551616
unfolding limit
limit_eight = refl

-- of up to nine digits it fits 64 bits
pub limit_high : (k : ℕ) → k ≤ 8 → limit k ≤ 18446744073709551616
limit_high k few = subst (λ m. limit k ≤ m) limit_eight (limits_rise k 8 few)

pub ruleset digit_laws = (
  digits_zero,
  digits_last,
  digits_step,
  limit_step,
  limit_zero,
)
