-- What comes in some ticks is the sum over all that can come, each as often as it comes.
use Rattle.std.proofs.Common.{ℕ, zero, suc, ◌≡◌, ◌<◌, ◌≤◌, ◌+◌, ◌*◌, Bool, true, false, cond, List, [], ◌∷◌, refl, sym, ◌∙◌, ap, arith, length}
use Rattle.std.specs.List.{filter, sum_by}
use Rattle.std.proofs.Math.Nat.{add-mul, mul-le-mul_right}
use Rattle.std.proofs.lemmas.List.Sums.{sum_by-cons, sum_by_push}
use Rattle.osek_base.specs.declared.arrivals.Arrival.{Arrival}
use Rattle.osek_base.specs.Lists.{below}
use Rattle.osek_base.specs.System.{System}
use Rattle.law_runs.specs.Jobs.{one_if}
use Rattle.law_future.specs.Shown.{arrives, chosen_of}
use Rattle.law_alarms.specs.Expiries.{expires, expiries}
use Rattle.law_alarms.specs.Spaced.{how_many}
use Rattle.law_windows.specs.Coming.{Costs, arrivals_in, came, cost_of, in_ticks}

-- ---- sums

module _ (cost : ℕ → ℕ) where
  -- of those that pass a test
  sum_passing : (test : ℕ → Bool) (xs : List ℕ)
      → sum_by cost (filter test xs) ≡ sum_by (λ x. one_if (test x) * cost x) xs
  sum_passing test [] = refl
  sum_passing test (x ∷ xs) =
      one (test x) ∙ ap (λ (n : ℕ). one_if (test x) * cost x + n) (sum_passing test xs)
      ∙ sym (sum_by-cons (λ y. one_if (test y) * cost y) x xs)
    where
      one : (b : Bool)
          → sum_by cost (cond b (x ∷ filter test xs) (filter test xs))
          ≡ one_if b * cost x + sum_by cost (filter test xs)
      one true =
          let sum = sum_by-cons cost x (filter test xs) in
          omega (arith, sum)
      one false = omega arith

sum_none : (cost : ℕ → ℕ) (xs : List ℕ) → sum_by (λ x. 0 * cost x) xs ≡ 0
sum_none cost [] = refl
sum_none cost (x ∷ xs) =
    let sum = sum_by-cons (λ y. 0 * cost y) x xs in
    let rest = sum_none cost xs in
    omega (arith, sum, rest)

-- some more of each
sum_more : (cost many more : ℕ → ℕ) (xs : List ℕ)
    → sum_by (λ x. (many x + more x) * cost x) xs
    ≡ sum_by (λ x. many x * cost x) xs + sum_by (λ x. more x * cost x) xs
sum_more cost many more [] = refl
sum_more cost many more (x ∷ xs) =
    let whole = sum_by-cons (λ y. (many y + more y) * cost y) x xs in
    let first = sum_by-cons (λ y. many y * cost y) x xs in
    let second = sum_by-cons (λ y. more y * cost y) x xs in
    let rest = sum_more cost many more xs in
    let here = add-mul (many x) (more x) (cost x) in
    omega (arith, whole, first, second, rest, here)

-- what costs something comes no more often
sum_less : (cost many most : ℕ → ℕ) (n : ℕ)
    → ((x : ℕ) → x < n → 1 ≤ cost x → many x ≤ most x)
    → sum_by (λ x. many x * cost x) (below n) ≤ sum_by (λ x. most x * cost x) (below n)
sum_less cost many most zero low = omega arith
sum_less cost many most (suc n) low =
    let one = sum_by_push (λ x. many x * cost x) (below n) n in
    let other = sum_by_push (λ x. most x * cost x) (below n) n in
    let rest = sum_less cost many most n (λ x less. low x (omega (arith, less))) in
    let here = term (cost n) (low n (omega arith)) in
    omega (arith, one, other, rest, here)
  where
    term : (c : ℕ) → (1 ≤ c → many n ≤ most n) → many n * c ≤ most n * c
    term zero less = omega arith
    term (suc c) less = mul-le-mul_right (suc c) (less (omega arith))

-- ---- over ticks

ticks_plus : (f g : ℕ → ℕ) (from count : ℕ)
    → in_ticks (λ n. f n + g n) from count ≡ in_ticks f from count + in_ticks g from count
ticks_plus f g from zero = refl
ticks_plus f g from (suc count) =
    let rest = ticks_plus f g from count in
    omega (arith, rest)

ticks_passing : (cost : ℕ → ℕ) (test : ℕ → ℕ → Bool) (xs : List ℕ) (from count : ℕ)
    → in_ticks (λ n. sum_by cost (filter (test n) xs)) from count
    ≡ sum_by (λ x. how_many (λ n. test n x) from count * cost x) xs
ticks_passing cost test xs from zero = sym (sum_none cost xs)
ticks_passing cost test xs from (suc count) =
    let rest = ticks_passing cost test xs from count in
    let here = sum_passing cost (test (from + count)) xs in
    let both =
    sum_more cost (λ x. how_many (λ n. test n x) from count)
    (λ x. one_if (test (from + count) x)) xs in
    omega (arith, rest, here, both)

module _ (S : System) (mode : ℕ) (arrivals : List Arrival) (costs : Costs) (from count : ℕ) where
  pub came_is : came S mode arrivals costs from count
      ≡ cost_of S costs (λ i. arrivals_in arrivals i from count)
      (λ a. expiries S mode arrivals a from count)
  came_is =
      let both =
      ticks_plus (λ n. sum_by costs.of_arrival (chosen_of S (arrives arrivals n)))
      (λ n. sum_by costs.of_expiry
      (filter (λ a. expires S mode arrivals a n) (below (length S.alarms))))
      from count in
      let one =
      ticks_passing costs.of_arrival (arrives arrivals) (below (length S.routines)) from count in
      let other =
      ticks_passing costs.of_expiry (λ n a. expires S mode arrivals a n)
      (below (length S.alarms)) from count in
      omega (arith, both, one, other)

-- what comes no more often costs no more
pub cost_less : (S : System) (costs : Costs) (many few most least : ℕ → ℕ)
    → ((i : ℕ) → i < length S.routines → many i ≤ most i)
    → ((a : ℕ) → a < length S.alarms → 1 ≤ costs.of_expiry a → few a ≤ least a)
    → cost_of S costs many few ≤ cost_of S costs most least
cost_less S costs many few most least some other =
    let one =
    sum_less costs.of_arrival many most (length S.routines) (λ i known dear. some i known) in
    let two = sum_less costs.of_expiry few least (length S.alarms) other in
    omega (arith, one, two)
