-- Alarms that have as much left, one by one and as tables.
use Rattle.std.proofs.Common.{ℕ, zero, suc, ◌≡◌, ◌<◌, ◌+◌, ◌-◌, ◌/◌, ◌%◌, inl, inr, Bool, true, false, cond, List, [], ◌∷◌, map, length, set, get_or, refl, sym, ◌∙◌, ap, subst, arith, length-set}
use Rattle.std.proofs.Math.Numerals.{add-one}
use Rattle.std.specs.Prelude.{Option, Some, None, ◌==◌, is_some}
use Rattle.std.specs.List.{filter}
use Rattle.std.proofs.lemmas.Bool.{cases_lt, cases_eq, ne_eqb, eq-eqb, and_parts, leb-true, ltb-true}
use Rattle.std.proofs.lemmas.List.{length-append, length-map, get_or-append_right, get_or_append_left, get_or-map, get_or-set_other, get_or_past}
use Rattle.std.proofs.lemmas.List.Elements.{filter-append}
use Rattle.std.proofs.lemmas.Grind.{get_or-set_at}
use Rattle.osek_base.specs.declared.task.Counter.{Counter}
use Rattle.osek_base.specs.Lists.{below}
use Rattle.osek_base.specs.System.{System, alarm, counter, counter_of, no_alarm, no_counter}
use Rattle.osek_base.specs.State.{Expiry}
use Rattle.osek_base.specs.Alarm.{is_due_at, renewed, next_count}
use Rattle.osek_base.specs.Service.{remaining}
use Rattle.osek_base.specs.Proper.{IsProper, is_proper_alarm, is_proper_counter}
use Rattle.osek_base.proofs.PlaceLemmas.{all_at}
use Rattle.law_future.specs.Alike.{HaveSameLeft}
use Rattle.law_future.proofs.Counts.{value_more}
use Rattle.law_future.proofs.Timed.{AreTimed}

-- ---- one alarm

pub one_on : (n m : ℕ) (e f : Option Expiry) → HaveSameLeft n e m f → is_some e ≡ is_some f
one_on n m None None h = refl
one_on n m None (Some f) h = absurd h
one_on n m (Some e) None h = absurd h
one_on n m (Some e) (Some f) h = refl

pub one_remaining : (n m : ℕ) (e f : Option Expiry) → HaveSameLeft n e m f → remaining n e ≡ remaining m f
one_remaining n m None None h = refl
one_remaining n m None (Some f) h = absurd h
one_remaining n m (Some e) None h = absurd h
one_remaining n m (Some e) (Some f) h = let left = h.1 in omega (arith, left)

pub one_due : (n m : ℕ) (e f : Option Expiry) → HaveSameLeft n e m f → is_due_at n e ≡ is_due_at m f
one_due n m None None h = refl
one_due n m None (Some f) h = absurd h
one_due n m (Some e) None h = absurd h
one_due n m (Some e) (Some f) h =
    let left = h.1 in
    elim (cases_eq e.count n) [
      | inl now ↦ eq-eqb e.count n now ∙ sym (eq-eqb f.count m (omega (arith, left, now)))
      | inr other ↦ ne_eqb e.count n other ∙ sym (ne_eqb f.count m (λ now. other (omega (arith, left, now))))
    ]

pub one_renewed : (n m : ℕ) (e f : Option Expiry) → HaveSameLeft n e m f → HaveSameLeft n (renewed e) m (renewed f)
one_renewed n m None None h = tt
one_renewed n m None (Some f) h = absurd h
one_renewed n m (Some e) None h = absurd h
one_renewed n m (Some e) (Some f) h =
    let cycle = h.0 in
    let left = h.1 in
    subst
    (λ (b : Bool). HaveSameLeft n (cond (e.cycle == 0) None (Some (record { count = e.count + e.cycle; cycle = e.cycle }))) m (cond b None (Some (record { count = f.count + f.cycle; cycle = f.cycle }))))
    (ap (λ (k : ℕ). k == 0) cycle)
    (go (e.cycle == 0) (omega (arith, left, cycle)))
  where
    go : (b : Bool) → e.count + e.cycle + m ≡ f.count + f.cycle + n
        → HaveSameLeft n (cond b None (Some (record { count = e.count + e.cycle; cycle = e.cycle }))) m (cond b None (Some (record { count = f.count + f.cycle; cycle = f.cycle })))
    go true later = tt
    go false later = (h.0, later)

pub one_expired : (n m : ℕ) (e f : Option Expiry) → HaveSameLeft n e m f
    → HaveSameLeft n (cond (is_due_at n e) (renewed e) e) m (cond (is_due_at m f) (renewed f) f)
one_expired n m e f h =
    subst (λ (b : Bool). HaveSameLeft n (cond (is_due_at n e) (renewed e) e) m (cond b (renewed f) f)) (one_due n m e f h)
    (go (is_due_at n e))
  where
    go : (b : Bool) → HaveSameLeft n (cond b (renewed e) e) m (cond b (renewed f) f)
    go true = one_renewed n m e f h
    go false = h

-- both counts have moved on
pub one_later : (n m k : ℕ) (e f : Option Expiry) → HaveSameLeft n e m f → HaveSameLeft (n + k) e (m + k) f
one_later n m k None None h = tt
one_later n m k None (Some f) h = absurd h
one_later n m k (Some e) None h = absurd h
one_later n m k (Some e) (Some f) h = (h.0, let left = h.1 in omega (arith, left))

-- the next count of one value
pub one_next : (c : Counter) (n m start : ℕ) → n % (c.max_allowed_value + 1) ≡ m % (c.max_allowed_value + 1)
    → next_count c n start + m ≡ next_count c m start + n
one_next c n m start value =
    let more :
    (start + (c.max_allowed_value + 1 - (n + 1) % (c.max_allowed_value + 1))) % (c.max_allowed_value + 1)
    ≡ (start + (c.max_allowed_value + 1 - (m + 1) % (c.max_allowed_value + 1))) % (c.max_allowed_value + 1) =
    ap (λ v. (start + (c.max_allowed_value + 1 - v)) % (c.max_allowed_value + 1)) (value_more n m 1 (c.max_allowed_value + 1) value) in
    omega (arith, more)

-- ---- lists by number

length-below : (n : ℕ) → length (below n) ≡ n
length-below zero = refl
length-below (suc n) = length-append (below n) (n ∷ []) ∙ (ap (λ m. m + 1) (length-below n) ∙ add-one n)

below_at : (n a : ℕ) → a < n → get_or (below n) a 0 ≡ a
below_at zero a inside = absurd (omega (arith, inside))
below_at (suc n) a inside = elim (cases_lt a n) [
  | inl low ↦
      let long = length-below n in
      get_or_append_left (below n) (n ∷ []) 0 a (omega (arith, low, long)) ∙ below_at n a low
  | inr high ↦
      let same : a ≡ n = omega (arith, high, inside) in
      get_or-append_right (below n) (n ∷ []) n a 0 (length-below n) high
      ∙ ap (λ k. get_or (n ∷ []) k 0) (let none : a - n ≡ 0 = omega (arith, same) in none) ∙ sym same
]

pub length-table : {X : Type 0} (f : ℕ → X) (n : ℕ) → length (map f (below n)) ≡ n
length-table f n = length-map (below n) f ∙ length-below n

pub table_at : {X : Type 0} (f : ℕ → X) (n a : ℕ) (d : X) → a < n → get_or (map f (below n)) a d ≡ f a
table_at f n a d inside =
    let long = length-below n in
    get_or-map f (below n) a 0 d (omega (arith, inside, long)) ∙ ap f (below_at n a inside)

filter_one : (p q : ℕ → Bool) (n : ℕ) → p n ≡ q n → filter p (n ∷ []) ≡ filter q (n ∷ [])
filter_one p q n same = rw same refl

pub filter_same : (p q : ℕ → Bool) (n : ℕ) → ((i : ℕ) → i < n → p i ≡ q i) → filter p (below n) ≡ filter q (below n)
filter_same p q zero same = refl
filter_same p q (suc n) same =
    let before = filter_same p q n (λ i low. same i (omega arith)) in
    let last = filter_one p q n (same n (omega arith)) in
    rw (filter-append p (below n) (n ∷ []), filter-append q (below n) (n ∷ []), before, last) refl

-- ---- tables

pub carried : (n m : ℕ) (x e y f : Option Expiry) → x ≡ e → y ≡ f → HaveSameLeft n e m f → HaveSameLeft n x m y
carried n m x e y f one other h =
    subst (λ (z : Option Expiry). HaveSameLeft n z m y) (sym one) (subst (λ (z : Option Expiry). HaveSameLeft n e m z) (sym other) h)

module _ (S : System) (valued : ℕ → Bool) (t : ℕ) (es : List (Option Expiry)) (u : ℕ) (fs : List (Option Expiry)) (timed : AreTimed S valued t es u fs) where
  -- also of a number that no alarm has
  pub anywhere : (a : ℕ)
      → HaveSameLeft (t / (counter_of S a).ticks_per_base) (get_or es a None) (u / (counter_of S a).ticks_per_base) (get_or fs a None)
  anywhere a = elim (cases_lt a (length S.alarms)) [
    | inl inside ↦ timed.left a inside
    | inr past ↦
        carried _ _ (get_or es a None) None (get_or fs a None) None
        (get_or_past es a None (let long = timed.one in omega (arith, past, long)))
        (get_or_past fs a None (let long = timed.other in omega (arith, past, long))) tt
  ]

  -- one alarm is set
  pub with_one : (a : ℕ) (e f : Option Expiry)
      → (a < length S.alarms → HaveSameLeft (t / (counter_of S a).ticks_per_base) e (u / (counter_of S a).ticks_per_base) f)
      → AreTimed S valued t (set es a e) u (set fs a f)
  with_one a e f left = record {
    values = timed.values;
    phases = timed.phases;
    one = length-set es a e ∙ timed.one;
    other = length-set fs a f ∙ timed.other;
    left = λ b inside. at b inside;
  }
    where
      at : (b : ℕ) → b < length S.alarms
          → HaveSameLeft (t / (counter_of S b).ticks_per_base) (get_or (set es a e) b None) (u / (counter_of S b).ticks_per_base) (get_or (set fs a f) b None)
      at b inside = elim (cases_eq b a) [
        | inl same ↦
            let here : a < length S.alarms = omega (arith, same, inside) in
            let long = timed.one in
            let wide = timed.other in
            carried _ _ (get_or (set es a e) b None) e (get_or (set fs a f) b None) f
            (get_or-set_at es a b e None same (omega (arith, here, long)))
            (get_or-set_at fs a b f None same (omega (arith, here, wide)))
            (subst (λ k. HaveSameLeft (t / (counter_of S k).ticks_per_base) e (u / (counter_of S k).ticks_per_base) f) (sym same) (left here))
        | inr away ↦
            carried _ _ (get_or (set es a e) b None) (get_or es b None) (get_or (set fs a f) b None) (get_or fs b None)
            (get_or-set_other es a b e None away) (get_or-set_other fs a b f None away) (timed.left b inside)
      ]

-- ---- counters of a proper system

alarm_proper : (S : System) (a : ℕ) → IsProper S → a < length S.alarms → is_proper_alarm S (alarm S a) ≡ true
alarm_proper S a proper low = all_at (is_proper_alarm S) S.alarms a no_alarm low (and_parts _ _ proper.objects).1

-- the counter of an alarm is declared
pub known_counter : (S : System) (a : ℕ) → IsProper S → a < length S.alarms → (alarm S a).counter < length S.counters
known_counter S a proper low = ltb-true _ _ (and_parts _ _ (and_parts _ _ (alarm_proper S a proper low)).0).0

-- a counter has a base of a tick at least
pub some_base : (S : System) (c : ℕ) → IsProper S → c < length S.counters → 0 < (counter S c).ticks_per_base
some_base S c proper low =
    let all = all_at is_proper_counter S.counters c no_counter low (and_parts _ _ (and_parts _ _ proper.objects).0).1 in
    leb-true _ _ (and_parts _ _ (and_parts _ _ all).0).1
