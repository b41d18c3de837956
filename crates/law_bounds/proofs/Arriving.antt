-- What arrives in each tick where arrivals come once more.
use Rattle.std.proofs.Common.{ℕ, ◌≡◌, ◌<◌, ◌≤◌, ◌+◌, ◌-◌, Bool, true, false, cond, List, [], ◌∷◌, ◌++◌, map, refl, sym, ◌∙◌, ap, ap₂, arith}
use Rattle.std.specs.Prelude.{◌==◌, nat_le}
use Rattle.std.specs.List.{AllByRecursion, filter}
use Rattle.std.proofs.lemmas.Bool.{leb-true}
use Rattle.std.proofs.lemmas.List.{append-nil, map-append}
use Rattle.std.proofs.lemmas.List.Elements.{filter-append}
use Rattle.osek_base.specs.declared.arrivals.Arrival.{Arrival}
use Rattle.osek_base.specs.Trace.{arriving}
use Rattle.law_bounds.specs.Lassos.{again, later, repeated}

pub arriving_other : (a : Arrival) (rest : List Arrival) (t : ℕ) → (a.tick == t) ≡ false
    → arriving (a ∷ rest) t ≡ arriving rest t
arriving_other a rest t other = rw other refl

pub arriving_first : (a : Arrival) (rest : List Arrival) (t : ℕ) → (a.tick == t) ≡ true
    → arriving (a ∷ rest) t ≡ a.routine ∷ arriving rest t
arriving_first a rest t same = rw same refl

arriving_both : (xs ys : List Arrival) (t : ℕ)
    → arriving (xs ++ ys) t ≡ arriving xs t ++ arriving ys t
arriving_both xs ys t =
    ap (map (λ (x : Arrival). x.routine)) (filter-append (λ (x : Arrival). x.tick == t) xs ys)
    ∙ map-append (λ (x : Arrival). x.routine) (filter (λ (x : Arrival). x.tick == t) xs)
    (filter (λ (x : Arrival). x.tick == t) ys)

-- none arrives behind all
pub none_behind : (until t : ℕ) (xs : List Arrival)
    → AllByRecursion (λ (a : Arrival). a.tick < until) xs → until ≤ t → arriving xs t ≡ []
none_behind until t [] all behind = refl
none_behind until t (a ∷ xs) all behind =
    let low = all.0 in
    let other : (a.tick == t) ≡ false = grind (arith, low, behind) in
    arriving_other a xs t other ∙ none_behind until t xs all.1 behind

module _ (from ticks : ℕ) where
  -- the first of arrivals is repeated, or not
  one_repeated : (a : Arrival) (xs : List Arrival) (b : Bool) → nat_le from a.tick ≡ b
      → repeated from ticks (a ∷ xs)
      ≡ cond b (later ticks a ∷ repeated from ticks xs) (repeated from ticks xs)
  one_repeated a xs true is = rw is refl
  one_repeated a xs false is = rw is refl

  -- nothing is repeated so early
  pub none_early : (t : ℕ) (xs : List Arrival) → t < from + ticks
      → arriving (repeated from ticks xs) t ≡ []
  none_early t [] early = refl
  none_early t (a ∷ xs) early = go (none_early t xs early) (nat_le from a.tick) refl
    where
      go : arriving (repeated from ticks xs) t ≡ [] → (b : Bool) → nat_le from a.tick ≡ b
          → arriving (repeated from ticks (a ∷ xs)) t ≡ []
      go rest true is =
          let high = leb-true from a.tick is in
          let other : (a.tick + ticks == t) ≡ false = grind (arith, high, early) in
          ap (λ (v : List Arrival). arriving v t) (one_repeated a xs true is)
          ∙ arriving_other (later ticks a) (repeated from ticks xs) t other ∙ rest
      go rest false is =
          ap (λ (v : List Arrival). arriving v t) (one_repeated a xs false is) ∙ rest

  -- what is repeated arrives so many ticks later
  pub all_later : (t : ℕ) (xs : List Arrival) → from ≤ t
      → arriving (repeated from ticks xs) (t + ticks) ≡ arriving xs t
  all_later t [] high = refl
  all_later t (a ∷ xs) high = go (all_later t xs high) (nat_le from a.tick) refl
    where
      Rest : Type 0
      Rest = arriving (repeated from ticks xs) (t + ticks) ≡ arriving xs t

      here : Rest → nat_le from a.tick ≡ true → (c : Bool) → (a.tick == t) ≡ c
          → arriving (later ticks a ∷ repeated from ticks xs) (t + ticks)
          ≡ arriving (a ∷ xs) t
      here rest is true same =
          let same_later : (a.tick + ticks == t + ticks) ≡ true = grind (arith, same) in
          arriving_first (later ticks a) (repeated from ticks xs) (t + ticks) same_later
          ∙ ap (λ (v : List ℕ). a.routine ∷ v) rest
          ∙ sym (arriving_first a xs t same)
      here rest is false other =
          let other_later : (a.tick + ticks == t + ticks) ≡ false = grind (arith, other) in
          arriving_other (later ticks a) (repeated from ticks xs) (t + ticks) other_later
          ∙ rest ∙ sym (arriving_other a xs t other)

      go : Rest → (b : Bool) → nat_le from a.tick ≡ b
          → arriving (repeated from ticks (a ∷ xs)) (t + ticks) ≡ arriving (a ∷ xs) t
      go rest true is =
          ap (λ (v : List Arrival). arriving v (t + ticks)) (one_repeated a xs true is)
          ∙ here rest is (a.tick == t) refl
      go rest false is =
          let other : (a.tick == t) ≡ false = grind (arith, is, high) in
          ap (λ (v : List Arrival). arriving v (t + ticks)) (one_repeated a xs false is)
          ∙ rest ∙ sym (arriving_other a xs t other)

module _ (from until : ℕ) (xs : List Arrival) (less : from < until)
    (before : AllByRecursion (λ (a : Arrival). a.tick < until) xs) where
  -- before the second round, what arrived
  pub first_round : (t : ℕ) → t < until → arriving (again from until xs) t ≡ arriving xs t
  first_round t low =
      let early : t < from + (until - from) = omega (arith, low, less) in
      arriving_both xs (repeated from (until - from) xs) t
      ∙ ap (λ (v : List ℕ). arriving xs t ++ v) (none_early from (until - from) t xs early)
      ∙ append-nil (arriving xs t)

  -- in it, the same so many ticks later
  pub second_round : (t u : ℕ) → from ≤ t → u ≡ t + (until - from)
      → arriving (again from until xs) u ≡ arriving xs t
  second_round t u high is =
      let behind : until ≤ u = omega (arith, high, is, less) in
      arriving_both xs (repeated from (until - from) xs) u
      ∙ ap₂ (λ (v w : List ℕ). v ++ w) (none_behind until u xs before behind)
      (ap (arriving (repeated from (until - from) xs)) is
      ∙ all_later from (until - from) t xs high)
