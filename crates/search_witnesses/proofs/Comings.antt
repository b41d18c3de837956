-- In how many of some ticks interrupts of a routine come.
use Rattle.std.proofs.Common.{ℕ, zero, suc, ◌≡◌, ◌<◌, ◌≤◌, ◌+◌, inl, inr, Bool, true, false, cond, List, [], ◌∷◌, map, length, refl, ◌∙◌, ap, ap₂, arith}
use Rattle.std.specs.Prelude.{◌==◌, ◌&&◌, ◌||◌, ◌⊎◌, nat_le, nat_lt}
use Rattle.std.specs.List.{filter}
use Rattle.std.proofs.lemmas.Bool.{eqb-true, ltb-false, ne_eqb}
use Rattle.osek_base.specs.declared.arrivals.Arrival.{Arrival}
use Rattle.osek_base.specs.Lists.{is_in}
use Rattle.arrival_rules.specs.Rules.{comes, comings}
use Rattle.search_witnesses.specs.Listing.{comes_between}

-- ---- one arrival and those behind it

-- what comes at a tick is the first of a list, or among the others
pub next : (a : Arrival) (rest : List Arrival) (i t : ℕ) → comes (a ∷ rest) i t ≡ true
    → ((a.tick ≡ t) × (a.routine ≡ i)) ⊎ (comes rest i t ≡ true)
next a rest i t is = go (a.tick == t) refl is
  where
    here : a.tick ≡ t → (c : Bool) → (a.routine == i) ≡ c → (c || comes rest i t) ≡ true
        → ((a.tick ≡ t) × (a.routine ≡ i)) ⊎ (comes rest i t ≡ true)
    here tick true same is = inl (tick, eqb-true a.routine i same)
    here tick false same is = inr is

    go : (b : Bool) → (a.tick == t) ≡ b
        → is_in i (map (λ (x : Arrival). x.routine)
        (cond b (a ∷ filter (λ x. x.tick == t) rest) (filter (λ x. x.tick == t) rest))) ≡ true
        → ((a.tick ≡ t) × (a.routine ≡ i)) ⊎ (comes rest i t ≡ true)
    go true same is = here (eqb-true a.tick t same) (a.routine == i) refl is
    go false same is = inr is

-- an arrival at another tick makes no difference, nor one of another routine
pub other_tick : (a : Arrival) (rest : List Arrival) (i t : ℕ) → (a.tick == t) ≡ false
    → comes (a ∷ rest) i t ≡ comes rest i t
other_tick a rest i t other = rw other refl

pub other_routine : (a : Arrival) (rest : List Arrival) (i : ℕ) → (a.routine == i) ≡ false
    → (t : ℕ) → comes (a ∷ rest) i t ≡ comes rest i t
other_routine a rest i other t = go (a.tick == t) refl
  where
    go : (b : Bool) → (a.tick == t) ≡ b → comes (a ∷ rest) i t ≡ comes rest i t
    go true same = rw (same, other) refl
    go false same = rw same refl

-- ---- numbers of ticks

abbrev one_if : Bool → ℕ
one_if b = cond b 1 0

-- of ticks that are the same one by one, as many
pub as_many : (xs ys : List Arrival) (i from count : ℕ)
    → ((t : ℕ) → from ≤ t → t < from + count → comes xs i t ≡ comes ys i t)
    → comings xs i from count ≡ comings ys i from count
as_many xs ys i from zero same = refl
as_many xs ys i from (suc count) same =
    ap₂ (λ n b. n + one_if b)
    (as_many xs ys i from count (λ t low high. same t low (omega (arith, high))))
    (same (from + count) (omega arith) (omega arith))

-- none, where none comes
pub none_come : (xs : List Arrival) (i from count : ℕ)
    → ((t : ℕ) → from ≤ t → t < from + count → comes xs i t ≡ false)
    → comings xs i from count ≡ 0
none_come xs i from zero none = refl
none_come xs i from (suc count) none =
    ap₂ (λ n b. n + one_if b)
    (none_come xs i from count (λ t low high. none t low (omega (arith, high))))
    (none (from + count) (omega arith) (omega arith))

-- first some ticks, and then others
pub parted : (xs : List Arrival) (i from one other : ℕ)
    → comings xs i from (one + other) ≡ comings xs i from one + comings xs i (from + one) other
parted xs i from one zero =
    let all : one + 0 ≡ one = omega arith in
    ap (comings xs i from) all ∙ omega arith
parted xs i from one (suc other) =
    let all : one + suc other ≡ suc (one + other) = omega arith in
    let tick : from + (one + other) ≡ from + one + other = omega arith in
    let before = parted xs i from one other in
    ap (comings xs i from) all
    ∙ ap₂ (λ n t. n + one_if (comes xs i t)) before tick
    ∙ omega arith

-- ---- an arrival more

-- none more, where it doesn't come in these ticks
pub same_outside : (a : Arrival) (rest : List Arrival) (i from count : ℕ)
    → (a.tick < from) ⊎ (from + count ≤ a.tick)
    → comings (a ∷ rest) i from count ≡ comings rest i from count
same_outside a rest i from count (inl early) =
    as_many (a ∷ rest) rest i from count
    (λ t low high. other_tick a rest i t
    (ne_eqb a.tick t (λ same. absurd (omega (arith, early, low, same)))))
same_outside a rest i from count (inr late) =
    as_many (a ∷ rest) rest i from count
    (λ t low high. other_tick a rest i t
    (ne_eqb a.tick t (λ same. absurd (omega (arith, late, high, same)))))

pub same_for_others : (a : Arrival) (rest : List Arrival) (i from count : ℕ)
    → (a.routine == i) ≡ false → comings (a ∷ rest) i from count ≡ comings rest i from count
same_for_others a rest i from count other =
    as_many (a ∷ rest) rest i from count (λ t low high. other_routine a rest i other t)

-- one more at most
pub one_more : (a : Arrival) (rest : List Arrival) (i from count : ℕ)
    → comings (a ∷ rest) i from count ≤ comings rest i from count + 1
one_more a rest i from zero = omega arith
one_more a rest i from (suc count) =
    go (one_more a rest i from count) (a.tick == from + count) refl
  where
    at_most_one : (b : Bool) → one_if b ≤ 1
    at_most_one true = omega arith
    at_most_one false = omega arith

    go : comings (a ∷ rest) i from count ≤ comings rest i from count + 1
        → (b : Bool) → (a.tick == from + count) ≡ b
        → comings (a ∷ rest) i from (suc count) ≤ comings rest i from (suc count) + 1
    go before true same =
        let tick = eqb-true a.tick (from + count) same in
        let even = same_outside a rest i from count (inr (omega (arith, tick))) in
        let most = at_most_one (comes (a ∷ rest) i (from + count)) in
        omega (arith, even, most)
    go before false other =
        let here = ap one_if (other_tick a rest i (from + count) other) in
        omega (arith, before, here)

-- ---- as many arrivals, at least, come between the first tick and the end

abbrev pub those_between : List Arrival → ℕ → ℕ → ℕ → List Arrival
those_between xs i from until = filter (comes_between i from until) xs

pub at_most_arrivals : (xs : List Arrival) (i from count : ℕ)
    → comings xs i from count ≤ length (those_between xs i from (from + count))
at_most_arrivals [] i from count =
    let none = none_come [] i from count (λ t low high. refl) in omega (arith, none)
at_most_arrivals (a ∷ rest) i from count =
    go (at_most_arrivals rest i from count) (a.routine == i) refl (nat_le from a.tick) refl
    (nat_lt a.tick (from + count)) refl
  where
    go : comings rest i from count ≤ length (those_between rest i from (from + count))
        → (b : Bool) → (a.routine == i) ≡ b → (c : Bool) → nat_le from a.tick ≡ c
        → (d : Bool) → nat_lt a.tick (from + count) ≡ d
        → comings (a ∷ rest) i from count ≤ length (cond (b && c && d)
        (a ∷ those_between rest i from (from + count)) (those_between rest i from (from + count)))
    go rests true same true low true high =
        let most = one_more a rest i from count in omega (arith, most, rests)
    go rests true same true low false late =
        let is = same_outside a rest i from count (inr (ltb-false a.tick (from + count) late)) in
        omega (arith, is, rests)
    go rests true same false early d is_d =
        let is = same_outside a rest i from count (inl (grind (arith, early))) in
        omega (arith, is, rests)
    go rests false other c is_c d is_d =
        let is = same_for_others a rest i from count other in omega (arith, is, rests)
