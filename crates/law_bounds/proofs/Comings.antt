-- In how many ticks in a row interrupts of a routine come.
use Rattle.std.proofs.Common.{ℕ, zero, suc, ◌≡◌, ◌<◌, ◌≤◌, ◌+◌, Bool, true, false, cond, List, refl, ◌∙◌, ap, ap₂, subst, arith}
use Rattle.osek_base.specs.declared.arrivals.Arrival.{Arrival}
use Rattle.arrival_rules.specs.Rules.{comes, comings}

module _ (xs : List Arrival) (i from : ℕ) where
  abbrev many : ℕ → ℕ
  many = comings xs i from

  abbrev here : ℕ → ℕ
  here t = cond (comes xs i t) 1 0

  -- in some ticks and those behind them
  pub split : (a b : ℕ)
      → comings xs i from (a + b) ≡ comings xs i from a + comings xs i (from + a) b
  split a zero =
      let same : a + 0 ≡ a = omega arith in
      let none : many a ≡ many a + 0 = omega arith in
      ap many same ∙ none
  split a (suc b) =
      let more : a + suc b ≡ suc (a + b) = omega arith in
      let place : from + (a + b) ≡ from + a + b = omega arith in
      let before = split a b in
      let last : here (from + (a + b)) ≡ here (from + a + b) = ap here place in
      let sum : many (a + b) + here (from + (a + b))
      ≡ many a + (comings xs i (from + a) b + here (from + a + b)) =
      omega (arith, before, last) in
      ap many more ∙ sum

  one_at_most : (b : Bool) → cond b 1 0 ≤ 1
  one_at_most true = omega arith
  one_at_most false = omega arith

  -- at most one a tick
  pub one_a_tick : (count : ℕ) → comings xs i from count ≤ count
  one_a_tick zero = omega arith
  one_a_tick (suc count) =
      let before = one_a_tick count in
      let one = one_at_most (comes xs i (from + count)) in
      omega (arith, before, one)

  -- one at least where one comes in the first tick
  pub first_counts : comes xs i from ≡ true → (count : ℕ) → 1 ≤ comings xs i from (suc count)
  first_counts come zero =
      let same : from ≡ from + 0 = omega arith in
      let one : here (from + 0) ≡ 1 =
      ap (λ b. cond b 1 0) (subst (λ t. comes xs i t ≡ true) same come) in
      omega (arith, one)
  first_counts come (suc count) = let before = first_counts come count in omega (arith, before)

-- as many come where the same come tick by tick
pub same_comings : (xs ys : List Arrival) (i from start count : ℕ)
    → ((k : ℕ) → k < count → comes xs i (from + k) ≡ comes ys i (start + k))
    → comings xs i from count ≡ comings ys i start count
same_comings xs ys i from start zero same = refl
same_comings xs ys i from start (suc count) same =
    ap₂ (λ (m : ℕ) (b : Bool). m + cond b 1 0)
    (same_comings xs ys i from start count (λ k low. same k (omega (arith, low))))
    (same count (omega arith))
