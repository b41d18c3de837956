-- How many known ticks lie below a tick: one more behind each, and in each round as many.
use Rattle.std.proofs.Common.{ℕ, zero, suc, ◌≡◌, ◌<◌, ◌≤◌, ◌+◌, ◌-◌, ◌*◌, ◌/◌, ◌%◌, inl, inr, Bool, true, false, cond, ◌&&◌, ◌||◌, nat_le, refl, ◌∙◌, ap, subst, arith}
use Rattle.std.specs.Prelude.{Option, Some, None, ◌==◌}
use Rattle.std.proofs.Math.Nat.{add-mul-div_right, div-mul-le_self, lt-div-mul-add, mul-le-mul_right, mul-pos}
use Rattle.std.proofs.lemmas.Bool.{and_parts, cases_lt, eqb-true, le-leb, leb-true, lt-leb, ne_eqb}
use Rattle.std.proofs.lemmas.Nat.{div-add-mod', div_below, le-div}
use Rattle.law_runs.specs.Jobs.{one_if}
use Rattle.law_alarms.specs.Spaced.{how_many, most_in}
use Rattle.law_windows.specs.KnownTicks.{come_again, known_before, known_in}

-- a cycle isn't none
some_cycle : (c : ℕ) → (suc c == 0) ≡ false
some_cycle c = ne_eqb (suc c) 0 (λ h. omega (arith, h))

module _ (base time : ℕ) where
  -- ---- by the first one

  none_before : (cycle t : ℕ) → t ≤ time * base → known_before (time, cycle) base t ≡ 0
  none_before cycle t low =
      ap (λ b. cond b 0 (cond (cycle == 0) 1 (most_in (cycle * base) (t - time * base))))
      (le-leb t (time * base) low)

  behind : (cycle t : ℕ) → time * base < t
      → known_before (time, cycle) base t
      ≡ cond (cycle == 0) 1 (most_in (cycle * base) (t - time * base))
  behind cycle t high =
      ap (λ b. cond b 0 (cond (cycle == 0) 1 (most_in (cycle * base) (t - time * base))))
      (lt-leb t (time * base) high)

  -- ---- without a cycle, and with one

  alone : (t : ℕ) → time * base < t → known_before (time, 0) base t ≡ 1
  alone t high = behind 0 t high

  regular : (c t : ℕ) → time * base < t
      → known_before (time, suc c) base t ≡ (t - time * base - 1) / (suc c * base) + 1
  regular c t high =
      behind (suc c) t high
      ∙ ap (λ b. cond b 1 (most_in (suc c * base) (t - time * base))) (some_cycle c)

  -- ---- they don't fall

  no_fewer : 0 < base → (cycle t u : ℕ) → t ≤ u
      → known_before (time, cycle) base t ≤ known_before (time, cycle) base u
  no_fewer some cycle t u more = elim (cases_lt (time * base) t) [
    | inr low ↦
        let none = none_before cycle t low in
        omega (arith, none)
    | inl high ↦ go cycle high
  ]
    where
      go : (c : ℕ) → time * base < t
          → known_before (time, c) base t ≤ known_before (time, c) base u
      go zero high =
          let one = alone t high in
          let other = alone u (omega (arith, high, more)) in
          omega (arith, one, other)
      go (suc c) high =
          let one = regular c t high in
          let other = regular c u (omega (arith, high, more)) in
          let down = div-mul-le_self (t - time * base - 1) (suc c * base) in
          let up =
          le-div ((t - time * base - 1) / (suc c * base)) (u - time * base - 1) (suc c * base)
          (mul-pos (omega arith) some) (omega (arith, down, more)) in
          omega (arith, one, other, up)

  -- ---- one more behind each

  one_more : 0 < base → (cycle k t : ℕ) → t ≡ (time + k * cycle) * base
      → known_before (time, cycle) base t + 1 ≤ known_before (time, cycle) base (suc t)
  one_more some zero k t is =
      let first : t ≡ time * base = omega (arith, is) in
      let none = none_before 0 t (omega (arith, first)) in
      let one = alone (suc t) (omega (arith, first)) in
      omega (arith, none, one)
  one_more some (suc c) k t is =
      let far : t ≡ time * base + k * (suc c * base) = omega (arith, is) in
      let next = regular c (suc t) (omega (arith, far)) in
      let up =
      le-div k (suc t - time * base - 1) (suc c * base) (mul-pos (omega arith) some)
      (omega (arith, far)) in
      let low = few far in
      omega (arith, next, up, low)
    where
      few : t ≡ time * base + k * (suc c * base) → known_before (time, suc c) base t ≤ k
      few far = elim (cases_lt (time * base) t) [
        | inr low ↦
            let none = none_before (suc c) t low in
            omega (arith, none)
        | inl high ↦
            let one = regular c t high in
            let down =
            div_below (t - time * base - 1) (suc c * base) k (mul-pos (omega arith) some)
            (omega (arith, far, high)) in
            omega (arith, one, down)
      ]

  -- ---- where there is one more, it's one of them

  pub is_known : 0 < base → (cycle t : ℕ)
      → known_before (time, cycle) base t < known_before (time, cycle) base (suc t)
      → (k : ℕ) × (t ≡ (time + k * cycle) * base)
  is_known some cycle t more = elim (cases_lt (time * base) (suc t)) [
    | inr low ↦
        let none = none_before cycle (suc t) low in
        absurd (omega (arith, none, more))
    | inl high ↦ go cycle high more
  ]
    where
      no_further : (c k : ℕ) → known_before (time, suc c) base t ≤ k
          → t ≤ time * base + k * (suc c * base)
      no_further c k few = elim (cases_lt (time * base) t) [
        | inr low ↦ omega (arith, low)
        | inl above ↦
            let one = regular c t above in
            let gap : 0 < suc c * base = mul-pos (omega arith) some in
            let end = lt-div-mul-add {a = t - time * base - 1} gap in
            let last : ((t - time * base - 1) / (suc c * base) + 1) * (suc c * base)
            ≤ k * (suc c * base) = mul-le-mul_right (suc c * base) (omega (arith, one, few)) in
            omega (arith, end, last)
      ]

      go : (c : ℕ) → time * base < suc t
          → known_before (time, c) base t < known_before (time, c) base (suc t)
          → (k : ℕ) × (t ≡ (time + k * c) * base)
      go zero high up = elim (cases_lt (time * base) t) [
        | inr low ↦ (0, omega (arith, low, high))
        | inl above ↦
            let one = alone t above in
            let other = alone (suc t) high in
            absurd (omega (arith, one, other, up))
      ]
      go (suc c) high up =
          let k = (suc t - time * base - 1) / (suc c * base) in
          let next = regular c (suc t) high in
          let down = div-mul-le_self (suc t - time * base - 1) (suc c * base) in
          let far = no_further c k (omega (arith, next, up)) in
          (k, omega (arith, down, far, high))

  -- ---- a round later, as many more

  later_at_least : 0 < base → (c m t : ℕ) → time * base ≤ t
      → known_before (time, suc c) base t + m
      ≤ known_before (time, suc c) base (t + m * (suc c * base))
  later_at_least some c zero t high =
      let here : t + 0 * (suc c * base) ≡ t = omega arith in
      let same = ap (known_before (time, suc c) base) here in
      omega (arith, same)
  later_at_least some c (suc m) t high = elim (cases_lt (time * base) t) [
    | inr low ↦
        let none = none_before (suc c) t low in
        let next = regular c (t + suc m * (suc c * base)) (omega (arith, high, gap)) in
        let up =
        le-div m (t + suc m * (suc c * base) - time * base - 1) (suc c * base) gap
        (omega (arith, high, gap)) in
        omega (arith, none, next, up)
    | inl above ↦
        let one = regular c t above in
        let next = regular c (t + suc m * (suc c * base)) (omega (arith, above)) in
        let same : t + suc m * (suc c * base) - time * base - 1
        ≡ t - time * base - 1 + suc m * (suc c * base) = omega (arith, above) in
        let more =
        ap (λ n. n / (suc c * base)) same
        ∙ add-mul-div_right (t - time * base - 1) (suc m) gap in
        omega (arith, one, next, more)
  ]
    where
      gap : 0 < suc c * base
      gap = mul-pos (omega arith) some

  later_at_most : 0 < base → (c m t : ℕ) → time * base ≤ t
      → known_before (time, suc c) base (t + m * (suc c * base))
      ≤ known_before (time, suc c) base t + m
  later_at_most some c m t high = elim (cases_lt (time * base) (t + m * (suc c * base))) [
    | inr low ↦
        let none = none_before (suc c) (t + m * (suc c * base)) low in
        omega (arith, none)
    | inl above ↦
        elim (cases_lt (time * base) t) [
          | inr low ↦
              let next = regular c (t + m * (suc c * base)) above in
              let down =
              div_below (t + m * (suc c * base) - time * base - 1) (suc c * base) m gap
              (omega (arith, low, above)) in
              omega (arith, next, down)
          | inl over ↦
              let one = regular c t over in
              let next = regular c (t + m * (suc c * base)) above in
              let same : t + m * (suc c * base) - time * base - 1
              ≡ t - time * base - 1 + m * (suc c * base) = omega (arith, over) in
              let more =
              ap (λ n. n / (suc c * base)) same
              ∙ add-mul-div_right (t - time * base - 1) m gap in
              omega (arith, one, next, more)
        ]
  ]
    where
      gap : 0 < suc c * base
      gap = mul-pos (omega arith) some

  -- ---- in a row of ticks

  in_rounds : 0 < base → (c m t count : ℕ) → time * base ≤ t
      → known_in (Some (time, suc c)) base (t + m * (suc c * base)) count
      ≤ known_in (Some (time, suc c)) base t count
  in_rounds some c m t count high =
      let begins = later_at_least some c m t high in
      let ends = later_at_most some c m (t + count) (omega (arith, high)) in
      let same : t + m * (suc c * base) + count ≡ t + count + m * (suc c * base) = omega arith in
      let there = ap (known_before (time, suc c) base) same in
      omega (arith, begins, ends, there)

  gone : (t count : ℕ) → time * base < t → known_in (Some (time, 0)) base t count ≡ 0
  gone t count high =
      let begins = alone t high in
      let ends = alone (t + count) (omega (arith, high)) in
      omega (arith, begins, ends)

  -- ---- in a row of ticks that begins a tick later

  pub no_fewer_later : 0 < base → (cycle t count : ℕ)
      → known_before (time, cycle) base (suc t) ≤ known_before (time, cycle) base t
      → known_in (Some (time, cycle)) base t count
      ≤ known_in (Some (time, cycle)) base (suc t) count
  no_fewer_later some cycle t count none =
      let more = no_fewer some cycle (t + count) (suc t + count) (omega arith) in
      omega (arith, none, more)

-- so from a first tick on no more lie in a row of ticks than in the one a round before
pub come_again_in : (base first round from count : ℕ) (o : Option (ℕ × ℕ)) → 0 < base → 1 ≤ round
    → come_again o base first round ≡ true → first ≤ from
    → known_in o base (from + round) count ≤ known_in o base from count
come_again_in base first round from count None some more again later = omega arith
come_again_in base first round from count (Some (time, zero)) some more again later =
    let low = leb-true (time * base) first (and_parts (nat_le (time * base) first) true again).0 in
    let none = gone base time (from + round) count (omega (arith, low, more, later)) in
    omega (arith, none)
come_again_in base first round from count (Some (time, suc c)) some more again later =
    let parts =
    and_parts (nat_le (time * base) first) (round % (suc c * base) == 0)
    (subst
    (λ b. (nat_le (time * base) first && (b || round % (suc c * base) == 0)) ≡ true)
    (some_cycle c) again) in
    let low = leb-true (time * base) first parts.0 in
    let left = eqb-true (round % (suc c * base)) 0 parts.1 in
    let split = div-add-mod' round (suc c * base) in
    let whole : from + round ≡ from + round / (suc c * base) * (suc c * base) =
    omega (arith, left, split) in
    let same = ap (λ t. known_in (Some (time, suc c)) base t count) whole in
    let less =
    in_rounds base time some c (round / (suc c * base)) from count (omega (arith, low, later)) in
    omega (arith, same, less)

-- ---- counted along a run

-- one that starts comes in no other ticks, so in no more than lie there
pub no_others : (base : ℕ) (start : ℕ × ℕ) (passes : ℕ → Bool) → 0 < base
    → ((n : ℕ) → passes n ≡ true → (k : ℕ) × (n ≡ (start.0 + k * start.1) * base))
    → (from count : ℕ) → how_many passes from count ≤ known_in (Some start) base from count
no_others base start passes some known from zero = omega arith
no_others base start passes some known from (suc count) =
    go (passes (from + count)) refl (no_others base start passes some known from count)
  where
    grown : known_before start base from ≤ known_before start base (from + count)
    grown = no_fewer base start.0 some start.1 from (from + count) (omega arith)

    next : from + suc count ≡ suc (from + count)
    next = omega arith

    there : known_before start base (from + suc count)
        ≡ known_before start base (suc (from + count))
    there = ap (known_before start base) next

    go : (b : Bool) → passes (from + count) ≡ b
        → how_many passes from count ≤ known_in (Some start) base from count
        → how_many passes from (suc count) ≤ known_in (Some start) base from (suc count)
    go true is before =
        let at = known (from + count) is in
        let one = one_more base start.0 some start.1 at.0 (from + count) at.1 in
        let here = ap one_if is in
        omega (arith, before, grown, there, one, here)
    go false is before =
        let more =
        no_fewer base start.0 some start.1 (from + count) (suc (from + count)) (omega arith) in
        let here = ap one_if is in
        omega (arith, before, grown, there, more, here)
