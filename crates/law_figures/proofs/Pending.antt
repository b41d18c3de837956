-- The age of a pending interrupt is counted from the tick since which figures know it to pend;
-- and its order.
use Rattle.std.proofs.Common.{ℕ, suc, ◌≡◌, ◌<◌, ◌≤◌, ◌+◌, ◌-◌, ◌^◌, Bool, true, false, cond, ◌||◌, List, [], ◌∷◌, Option, Some, None, option_map, refl, sym, ◌∙◌, ap, subst, arith}
use Rattle.std.specs.List.{AllByRecursion}
use Rattle.view_figures.specs.declared.routine_figures.RoutineTick.{RoutineTick}
use Rattle.view_figures.specs.Counts.{capped}
use Rattle.view_figures.specs.Reaching.{worst, worse_of}
use Rattle.view_figures.specs.RoutineSums.{since, still, pending_since, pending_age, latency, greatest_latency, routine_figures}
use Rattle.law_figures.specs.Labels.{label_after, AreNumbered, reached, all_shown, IsAtMost}
use Rattle.law_figures.specs.Pending.{pending_in, pending_next, pending, start_latency, tick_of, IsOlder, LatenciesAreAges, PendingIsAge, PendingKeepsOrder}
use Rattle.law_figures.proofs.Greatest.{is_greatest, worst_put}

-- in a tick an interrupt pends for as long as the ticks since it did, both counted
abbrev Aged : ℕ → Option ℕ → Option ℕ → Type 0
Aged tick None None = Unit {0}
Aged tick (Some s) (Some n) = (s ≤ tick) × (n ≡ tick - s + 1)
Aged tick None (Some n) = ⊥
Aged tick (Some s) None = ⊥

-- between ticks: a tick later
abbrev AgedBefore : ℕ → Option ℕ → Option ℕ → Type 0
AgedBefore tick None None = Unit {0}
AgedBefore tick (Some s) (Some n) = (s ≤ tick) × (suc n ≡ tick - s + 1)
AgedBefore tick None (Some n) = ⊥
AgedBefore tick (Some s) None = ⊥

a_tick_older : (tick : ℕ) (flag age : Option ℕ) → Aged tick flag age
    → AgedBefore (suc tick) flag age
a_tick_older tick None None h = tt
a_tick_older tick None (Some n) h = absurd h
a_tick_older tick (Some s) None h = absurd h
a_tick_older tick (Some s) (Some n) h =
    let low : s ≤ tick = h.0 in
    let e : n ≡ tick - s + 1 = h.1 in
    (omega arith, omega arith)

aged_new : (tick : ℕ) (b : Bool) → Aged tick (cond b (Some tick) None) (cond b (Some 1) None)
aged_new tick true = (omega arith, omega arith)
aged_new tick false = tt

aged_in : (r : RoutineTick) (flag age : Option ℕ) → AgedBefore r.tick flag age
    → Aged r.tick (since r flag) (pending_in r age)
aged_in r None None h = aged_new r.tick (r.seen.is_pending || r.seen.is_started)
aged_in r None (Some n) h = absurd h
aged_in r (Some s) None h = absurd h
aged_in r (Some s) (Some n) h = h

aged_next : (r : RoutineTick) (flag age : Option ℕ) → Aged r.tick flag age
    → Aged r.tick (still r flag) (cond r.seen.is_started None age)
aged_next r flag age h = go r.seen.is_started
  where
    go : (b : Bool) → Aged r.tick (cond b None flag) (cond b None age)
    go true = tt
    go false = h

in_tick : (r : RoutineTick) (before : List RoutineTick) → AreNumbered tick_of (r ∷ before)
    → Aged r.tick (since r (pending_since before)) (pending_in r (label_after pending before))
in_tick r [] h = aged_in r None None tt
in_tick r (u ∷ before) h =
    let flag = pending_since (u ∷ before) in
    let age = label_after pending (u ∷ before) in
    let last : Aged u.tick flag age =
    aged_next u (since u (pending_since before)) (pending_in u (label_after pending before))
    (in_tick u before h.1) in
    aged_in r flag age (subst (λ k. AgedBefore k flag age) (sym h.0)
    (a_tick_older u.tick flag age last))

-- ---- the laws

age_is : (tick : ℕ) (flag age : Option ℕ) → Aged tick flag age
    → pending_age tick flag ≡ reached tick age
age_is tick None None h = refl
age_is tick None (Some n) h = absurd h
age_is tick (Some s) None h = absurd h
age_is tick (Some s) (Some n) h = ap (λ k. Some (record { ticks = capped k; at = tick })) (sym h.1)

pends_since : (seen : List RoutineTick) → (routine_figures seen).pending_since ≡ pending_since seen
unfolding routine_figures
pends_since seen = refl

pub pending_is_age : PendingIsAge
pending_is_age r before h =
    ap (pending_age r.tick) (pends_since (r ∷ before))
    ∙ age_is r.tick (pending_since (r ∷ before)) (label_after pending (r ∷ before))
    (aged_next r (since r (pending_since before)) (pending_in r (label_after pending before))
    (in_tick r before h))

latency_is : (r : RoutineTick) (flag age : Option ℕ) → r.tick < 2 ^ 32 → Aged r.tick flag age
    → latency r flag ≡ reached r.tick (cond r.seen.is_started (option_map (λ n. n - 1) age) None)
latency_is r None None small h = go r.seen.is_started
  where
    go : (b : Bool) → None ≡ reached r.tick (cond b None None)
    go true = refl
    go false = refl
latency_is r None (Some n) small h = absurd h
latency_is r (Some s) None small h = absurd h
latency_is r (Some s) (Some n) small h =
    let e : n ≡ r.tick - s + 1 = h.1 in
    go (omega arith) r.seen.is_started
  where
    go : r.tick - s ≡ capped (n - 1) → (b : Bool)
        → cond b (Some (record { ticks = r.tick - s; at = r.tick })) None
        ≡ reached r.tick (cond b (Some (n - 1)) None)
    go e true = ap (λ k. Some (record { ticks = k; at = r.tick })) e
    go e false = refl

numbered_before : (r : RoutineTick) (before : List RoutineTick) → AreNumbered tick_of (r ∷ before)
    → AreNumbered tick_of before
numbered_before r [] h = tt
numbered_before r (u ∷ before) h = h.1

latencies_are : (seen : List RoutineTick) → AreNumbered tick_of seen
    → AllByRecursion (λ r. r.tick < 2 ^ 32) seen
    → greatest_latency seen ≡ worst (all_shown pending tick_of start_latency seen)
latencies_are [] h small = refl
latencies_are (r ∷ before) h small =
    let here : latency r (since r (pending_since before))
    ≡ reached r.tick (start_latency r (label_after pending before)) =
    latency_is r (since r (pending_since before))
    (pending_in r (label_after pending before)) small.0 (in_tick r before h) in
    let there = latencies_are before (numbered_before r before h) small.1 in
    (λ i. worse_of (there i) (here i))
    ∙ sym (worst_put (reached r.tick (start_latency r (label_after pending before)))
    (all_shown pending tick_of start_latency before))

greatest : (seen : List RoutineTick) → (routine_figures seen).latency ≡ greatest_latency seen
unfolding routine_figures
greatest seen = refl

pub latencies_are_ages : LatenciesAreAges
latencies_are_ages seen h small =
    is_greatest pending tick_of start_latency seen (routine_figures seen).latency
    (greatest seen ∙ latencies_are seen h small)

-- ---- order

pub older_itself : (x : Option ℕ) → IsOlder x x
older_itself None = tt
older_itself (Some n) = omega arith

older_joined : (x y z : Option ℕ) → IsOlder x y → IsOlder y z → IsOlder x z
older_joined x y None h k = tt
older_joined x None (Some n) h k = absurd k
older_joined None (Some m) (Some n) h k = absurd h
older_joined (Some l) (Some m) (Some n) h k = omega (arith, h, k)

older_new : (n : ℕ) (b : Bool) → IsOlder (Some (suc n)) (cond b (Some 1) None)
older_new n true = omega arith
older_new n false = tt

older_in : (r : RoutineTick) (x y : Option ℕ) → IsOlder x y
    → IsOlder (pending_in r x) (pending_in r y)
older_in r None None h = older_itself (pending_in r None)
older_in r (Some n) None h = older_new n (r.seen.is_pending || r.seen.is_started)
older_in r None (Some n) h = absurd h
older_in r (Some m) (Some n) h = omega (arith, h)

older_next : (r : RoutineTick) (x y : Option ℕ) → IsOlder x y
    → IsOlder (pending_next r x) (pending_next r y)
older_next r x y h = go r.seen.is_started
  where
    go : (b : Bool) → IsOlder (cond b None (pending_in r x)) (cond b None (pending_in r y))
    go true = tt
    go false = older_in r x y h

no_less : (m : ℕ) (x y : Option ℕ) → IsOlder x y → IsAtMost m x → IsAtMost m y
no_less m x None h low = tt
no_less m None (Some n) h low = absurd h
no_less m (Some k) (Some n) h low = omega (arith, h, low)

one_less : (m : ℕ) (x y : Option ℕ) → IsOlder x y → IsAtMost m (option_map (λ n. n - 1) x)
    → IsAtMost m (option_map (λ n. n - 1) y)
one_less m x None h low = tt
one_less m None (Some n) h low = absurd h
one_less m (Some k) (Some n) h low = omega (arith, h, low)

latency_shown : (r : RoutineTick) (x y : Option ℕ) (m : ℕ) → IsOlder x y
    → IsAtMost m (start_latency r x) → IsAtMost m (start_latency r y)
latency_shown r x y m h = go r.seen.is_started
  where
    go : (b : Bool) → IsAtMost m (cond b (option_map (λ n. n - 1) (pending_in r x)) None)
        → IsAtMost m (cond b (option_map (λ n. n - 1) (pending_in r y)) None)
    go true low = one_less m (pending_in r x) (pending_in r y) (older_in r x y h) low
    go false low = tt

pub pending_keeps_order : PendingKeepsOrder
pending_keeps_order = record {
  order = record { itself = older_itself; joined = older_joined; next = older_next };
  pending = λ r x y m h low. no_less m (pending_in r x) (pending_in r y) (older_in r x y h) low;
  latency = latency_shown;
}
