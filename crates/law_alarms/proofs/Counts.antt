-- Ticks and the counts in which they lie.
use Rattle.std.proofs.Common.{ℕ, suc, ◌≡◌, ◌<◌, ◌≤◌, ◌+◌, ◌*◌, ◌/◌, ◌%◌, inl, inr, sym, ◌∙◌, ap, arith}
use Rattle.std.proofs.Math.Nat.{add-mul, div-mul-le_self, lt-div-mul-add, lt_of_mul-lt-mul_right, mul-div_left, mul-le-mul_right}
use Rattle.std.proofs.lemmas.Bool.{cases_lt}
use Rattle.std.proofs.lemmas.Nat.{div-add-mod', le-div}

-- a tick of a count that isn't behind its first one is the first
pub first_of : (t b m : ℕ) → m ≡ t / b → t ≤ m * b → t % b ≡ 0
first_of t b m is early =
    let whole = div-add-mod' t b in
    let same : m * b ≡ t / b * b = ap (λ k. k * b) is in
    omega (arith, whole, same, early)

-- in a tick of another count, one that isn't behind the first tick of a count is before it
pub before : (t b m : ℕ) → 0 < b → (m ≡ t / b → ⊥) → t ≤ m * b → suc t ≤ m * b
before t b m some other early = elim (cases_lt t (m * b)) [
  | inl less ↦ omega (arith, less)
  | inr more ↦
      let same : t ≡ m * b = omega (arith, early, more) in
      absurd (other (sym (ap (λ k. k / b) same ∙ mul-div_left m some)))
]

-- so is a tick of an earlier count
pub before_later : (t b m : ℕ) → 0 < b → t / b < m → suc t ≤ m * b
before_later t b m some less =
    let end = lt-div-mul-add {a = t} some in
    let sum = add-mul (t / b) 1 b in
    let most : (t / b + 1) * b ≤ m * b = mul-le-mul_right b (omega (arith, less)) in
    omega (arith, end, sum, most)

-- counts of ticks don't fall
pub no_less : (t u b : ℕ) → 0 < b → t ≤ u → t / b ≤ u / b
no_less t u b some more =
    let down = div-mul-le_self t b in
    le-div (t / b) u b some (omega (arith, down, more))

-- from the first tick of a count to another count
pub so_far : (t u b least : ℕ) → t % b ≡ 0 → t / b + least ≤ u / b → t + least * b ≤ u
so_far t u b least first far =
    let whole = div-add-mod' t b in
    let down = div-mul-le_self u b in
    let sum = add-mul (t / b) least b in
    let most : (t / b + least) * b ≤ u / b * b = mul-le-mul_right b far in
    omega (arith, whole, first, down, sum, most)

-- from the first tick of a count to that of another
pub steps_on : (t u b : ℕ) → 0 < b → t % b ≡ 0 → u % b ≡ 0 → t < u → t + b ≤ u
steps_on t u b some first next later =
    let whole = div-add-mod' t b in
    let other = div-add-mod' u b in
    let more : t / b < u / b =
    lt_of_mul-lt-mul_right b (omega (arith, whole, other, first, next, later)) in
    let far = so_far t u b 1 first (omega (arith, more)) in
    omega (arith, far)

pub no_cycles : (time k cycle : ℕ) → cycle ≡ 0 → time + k * cycle ≡ time
no_cycles time k cycle none =
    let nothing : k * cycle ≡ k * 0 = ap (λ c. k * c) none in
    omega (arith, nothing)
