-- Arrivals of which none of a routine comes in the tick of another one.
use Rattle.std.proofs.Common.{ℕ, ◌≡◌, ◌≤◌, ◌+◌, inl, inr, Bool, true, false, cond, ◌||◌, List, [], ◌∷◌, map, length, refl, sym, ◌∙◌, ap, subst, arith, true≢false}
use Rattle.std.specs.Prelude.{◌==◌, ◌&&◌, ◌⊎◌, nat_lt, not}
use Rattle.std.specs.List.{filter, list_all}
use Rattle.std.proofs.lemmas.Bool.{eq-eqb, eqb-true, ltb-false}
use Rattle.osek_base.specs.declared.arrivals.Arrival.{Arrival}
use Rattle.osek_base.specs.Lists.{is_in}
use Rattle.osek_base.specs.Trace.{arriving}
use Rattle.osek_base.proofs.PlaceLemmas.{and_split}
use Rattle.arrival_rules.specs.Rules.{comes}
use Rattle.search_witnesses.specs.Listing.{come_once, comes_behind}
use Rattle.search_witnesses.proofs.Comings.{next}

abbrev pub times_in : ℕ → List ℕ → ℕ
times_in n numbers = length (filter (λ m. m == n) numbers)

none_there : (k : ℕ) (ns : List ℕ) → is_in k ns ≡ false → times_in k ns ≡ 0
none_there k [] none = refl
none_there k (n ∷ ns) none = go (none_there k ns) (n == k) none
  where
    go : (is_in k ns ≡ false → times_in k ns ≡ 0) → (b : Bool) → (b || is_in k ns) ≡ false
        → length (cond b (n ∷ filter (λ m. m == k) ns) (filter (λ m. m == k) ns)) ≡ 0
    go rest true here = absurd (true≢false here)
    go rest false others = rest others

behind : (r t : ℕ) (b : Arrival) → comes_behind r t b ≡ true → b.routine ≡ r → t ≤ b.tick
behind r t b is same =
    go (nat_lt b.tick t) refl
    (sym (ap (λ e. not (e && nat_lt b.tick t)) (eq-eqb b.routine r same)) ∙ is)
  where
    go : (c : Bool) → nat_lt b.tick t ≡ c → not c ≡ true → t ≤ b.tick
    go true lower is = absurd (true≢false (sym is))
    go false lower is = ltb-false b.tick t lower

-- a routine that isn't to come before a tick doesn't
all_behind : (r t : ℕ) (later : List Arrival) → list_all (comes_behind r t) later ≡ true
    → (u : ℕ) → comes later r u ≡ true → t ≤ u
all_behind r t [] are u is = absurd (true≢false (sym is))
all_behind r t (b ∷ rest) are u is =
    let both = and_split (comes_behind r t b) (list_all (comes_behind r t) rest) are in
    go (all_behind r t rest both.1 u) (next b rest r u is)
  where
    go : (comes rest r u ≡ true → t ≤ u)
        → ((b.tick ≡ u) × (b.routine ≡ r)) ⊎ (comes rest r u ≡ true) → t ≤ u
    go rests (inl here) =
        subst (λ n. t ≤ n) here.0
        (behind r t b (and_split (comes_behind r t b) (list_all (comes_behind r t) rest) are).0
        here.1)
    go rests (inr there) = rests there

-- those behind one of its routine come later
after : (a : Arrival) (rest : List Arrival) → come_once (a ∷ rest) ≡ true
    → (u i : ℕ) → a.routine ≡ i → comes rest i u ≡ true → a.tick + 1 ≤ u
after a rest alone u i same is =
    all_behind a.routine (a.tick + 1) rest (and_split _ _ alone).0 u
    (subst (λ j. comes rest j u ≡ true) (sym same) is)

pub once : (xs : List Arrival) → come_once xs ≡ true → (i t : ℕ)
    → times_in i (arriving xs t) ≤ 1
once [] alone i t = omega arith
once (a ∷ rest) alone i t =
    go (once rest (and_split _ _ alone).1 i t) (a.tick == t) refl
  where
    none : a.tick ≡ t → a.routine ≡ i → (b : Bool) → comes rest i t ≡ b
        → comes rest i t ≡ false
    none tick same true is =
        let late = after a rest alone t i same is in absurd (omega (arith, tick, late))
    none tick same false is = is

    here : times_in i (arriving rest t) ≤ 1 → a.tick ≡ t → (c : Bool) → (a.routine == i) ≡ c
        → length (cond c (a.routine ∷ filter (λ m. m == i) (arriving rest t))
        (filter (λ m. m == i) (arriving rest t))) ≤ 1
    here rests tick true same =
        let zero_there =
        none_there i (arriving rest t)
        (none tick (eqb-true a.routine i same) (comes rest i t) refl) in
        omega (arith, zero_there)
    here rests tick false same = rests

    go : times_in i (arriving rest t) ≤ 1 → (b : Bool) → (a.tick == t) ≡ b
        → times_in i (map (λ (x : Arrival). x.routine)
        (cond b (a ∷ filter (λ x. x.tick == t) rest) (filter (λ x. x.tick == t) rest))) ≤ 1
    go rests true same = here rests (eqb-true a.tick t same) (a.routine == i) refl
    go rests false same = rests
