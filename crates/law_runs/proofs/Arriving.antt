-- Runs depend on what arrives in their ticks alone, and go on by whatever arrives in the next.
use Rattle.std.proofs.Common.{◌≡◌, ℕ, zero, suc, ◌<◌, ◌≤◌, Bool, true, false, cond, List, [], ◌∷◌, ◌++◌, map, length, refl, sym, ◌∙◌, ap, ap₂, arith}
use Rattle.std.specs.Prelude.{◌==◌, ◌&&◌, nat_le, nat_lt}
use Rattle.std.specs.List.{AllByRecursion, filter}
use Rattle.std.proofs.lemmas.List.{append-nil, map-append}
use Rattle.std.proofs.lemmas.List.Elements.{filter-append}
use Rattle.osek_base.specs.declared.arrivals.Arrival.{Arrival}
use Rattle.osek_base.specs.declared.limits.TheConstants.{MAX_TICKS}
use Rattle.osek_base.specs.ArrivalList.{are_in_order}
use Rattle.osek_base.proofs.PlaceLemmas.{and_split}
use Rattle.law_runs.proofs.Lists.{all_append, all_kept}
use Rattle.std.proofs.lemmas.Bool.{leb-true, ltb-true}
use Rattle.osek_base.specs.System.{System}
use Rattle.osek_base.specs.Tick.{tick}
use Rattle.osek_base.specs.Trace.{Run, arriving, one_more, run, step_added}
use Rattle.law_runs.proofs.Further.{run_more, run_tick}
use Rattle.law_runs.specs.Arrived.{arrived_at, with_arrived}
use Rattle.law_runs.specs.Runs.{DependsOnThePast, GoesOnByAny, TakesAnyArrivals}

-- ---- what arrives at a tick

abbrev is_past : ℕ → Arrival → Bool
is_past n a = nat_lt a.tick n

arriving_other : (a : Arrival) (rest : List Arrival) (t : ℕ) → (a.tick == t) ≡ false → arriving (a ∷ rest) t ≡ arriving rest t
arriving_other a rest t other = rw other refl

arriving_first : (a : Arrival) (rest : List Arrival) (t : ℕ) → (a.tick == t) ≡ true → arriving (a ∷ rest) t ≡ a.routine ∷ arriving rest t
arriving_first a rest t same = rw same refl

arriving_both : (xs ys : List Arrival) (t : ℕ) → arriving (xs ++ ys) t ≡ arriving xs t ++ arriving ys t
arriving_both xs ys t =
    ap (map (λ (x : Arrival). x.routine)) (filter-append (λ (x : Arrival). x.tick == t) xs ys)
    ∙ map-append (λ (x : Arrival). x.routine) (filter (λ (x : Arrival). x.tick == t) xs) (filter (λ (x : Arrival). x.tick == t) ys)

arriving_more : (a : Arrival) (xs ys : List Arrival) (t : ℕ) → arriving ys t ≡ arriving xs t → (b : Bool) → (a.tick == t) ≡ b
    → arriving (a ∷ ys) t ≡ arriving (a ∷ xs) t
arriving_more a xs ys t same true is = arriving_first a ys t is ∙ ap (λ v. a.routine ∷ v) same ∙ sym (arriving_first a xs t is)
arriving_more a xs ys t same false is = arriving_other a ys t is ∙ same ∙ sym (arriving_other a xs t is)

past_more : (n t : ℕ) (a : Arrival) (xs ys : List Arrival) → t < n → arriving ys t ≡ arriving xs t → (b : Bool) → nat_lt a.tick n ≡ b
    → arriving (cond b (a ∷ ys) ys) t ≡ arriving (a ∷ xs) t
past_more n t a xs ys low same true is = arriving_more a xs ys t same (a.tick == t) refl
past_more n t a xs ys low same false is =
    let other : (a.tick == t) ≡ false = grind (arith, low, is) in
    same ∙ sym (arriving_other a xs t other)

-- the arrivals before a tick are all that arrive in one before it, and none of them arrives in it
past_same : (n t : ℕ) (xs : List Arrival) → t < n → arriving (filter (is_past n) xs) t ≡ arriving xs t
past_same n t [] low = refl
past_same n t (a ∷ xs) low = past_more n t a xs (filter (is_past n) xs) low (past_same n t xs low) (nat_lt a.tick n) refl

none_more : (n : ℕ) (a : Arrival) (ys : List Arrival) → arriving ys n ≡ [] → (b : Bool) → nat_lt a.tick n ≡ b → arriving (cond b (a ∷ ys) ys) n ≡ []
none_more n a ys none true is =
    let other : (a.tick == n) ≡ false = grind (arith, is) in
    arriving_other a ys n other ∙ none
none_more n a ys none false is = none

past_none : (n : ℕ) (xs : List Arrival) → arriving (filter (is_past n) xs) n ≡ []
past_none n [] = refl
past_none n (a ∷ xs) = none_more n a (filter (is_past n) xs) (past_none n xs) (nat_lt a.tick n) refl

at_another : (n t : ℕ) (routines : List ℕ) → (n == t) ≡ false → arriving (arrived_at n routines) t ≡ []
at_another n t [] other = refl
at_another n t (i ∷ rest) other = arriving_other (record { tick = n; routine = i }) (arrived_at n rest) t other ∙ at_another n t rest other

at_itself : (n : ℕ) (routines : List ℕ) → arriving (arrived_at n routines) n ≡ routines
at_itself n [] = refl
at_itself n (i ∷ rest) =
    let same : (n == n) ≡ true = grind arith in
    arriving_first (record { tick = n; routine = i }) (arrived_at n rest) n same ∙ ap (λ v. i ∷ v) (at_itself n rest)

pub earlier : (n t : ℕ) (routines : List ℕ) (arrivals : List Arrival) → t < n → arriving (with_arrived n routines arrivals) t ≡ arriving arrivals t
earlier n t routines arrivals low =
    let other : (n == t) ≡ false = grind (arith, low) in
    arriving_both (filter (is_past n) arrivals) (arrived_at n routines) t
    ∙ ap₂ (λ (u v : List ℕ). u ++ v) (past_same n t arrivals low) (at_another n t routines other)
    ∙ append-nil (arriving arrivals t)

pub present : (n : ℕ) (routines : List ℕ) (arrivals : List Arrival) → arriving (with_arrived n routines arrivals) n ≡ routines
present n routines arrivals =
    arriving_both (filter (is_past n) arrivals) (arrived_at n routines) n
    ∙ ap₂ (λ (u v : List ℕ). u ++ v) (past_none n arrivals) (at_itself n routines)

-- ---- runs

one_more_same : (S : System) (a b : List Arrival) (r : Run) (over : Bool) → r.state.over ≡ over
    → (r.state.over ≡ false → arriving a r.state.tick ≡ arriving b r.state.tick) → one_more S a r ≡ one_more S b r
one_more_same S a b r true is same = rw is refl
one_more_same S a b r false is same = rw (is, same is) refl

pub depends_on_the_past : DependsOnThePast
unfolding run
depends_on_the_past S mode a b zero same = refl
depends_on_the_past S mode a b (suc n) same =
    let before : run S mode a n ≡ run S mode b n = depends_on_the_past S mode a b n (λ t low. same t (omega arith)) in
    one_more_same S a b (run S mode a n) (run S mode a n).state.over refl
    (λ going. ap (arriving a) (run_tick S mode a n going) ∙ same n (omega arith) ∙ sym (ap (arriving b) (run_tick S mode a n going)))
    ∙ ap (one_more S b) before

pub goes_on_by_any : GoesOnByAny
goes_on_by_any S mode arrivals n routines going =
    let all : List Arrival = with_arrived n routines arrivals in
    let past : run S mode all n ≡ run S mode arrivals n =
    depends_on_the_past S mode all arrivals n (λ t low. earlier n t routines arrivals low) in
    let goes : (run S mode all n).state.over ≡ false = ap (λ (r : Run). r.state.over) past ∙ going in (
      past,
      run_more S mode all n goes
          ∙ ap (λ v. step_added (run S mode all n) (tick S v (run S mode all n).state))
          (ap (arriving all) (run_tick S mode all n goes) ∙ present n routines arrivals)
          ∙ ap (λ r. step_added r (tick S routines r.state)) past,
    )

-- ---- they are arrivals that there may be

order_split : (least tick : ℕ) (rest : Bool) → (nat_le least tick && nat_lt tick MAX_TICKS && rest) ≡ true → (least ≤ tick) × (tick < MAX_TICKS) × (rest ≡ true)
order_split least tick rest h =
    let parts = and_split _ _ h in
    let front = and_split _ _ parts.0 in
    (leb-true _ _ front.0, ltb-true _ _ front.1, parts.1)

order_of : (least tick : ℕ) (rest : Bool) → least ≤ tick → tick < MAX_TICKS → rest ≡ true → (nat_le least tick && nat_lt tick MAX_TICKS && rest) ≡ true
order_of least tick rest low limit is =
    let first : nat_le least tick ≡ true = grind (arith, low) in
    let second : nat_lt tick MAX_TICKS ≡ true = grind (arith, limit) in
    rw (first, second) is

order_weaker : (least more : ℕ) (xs : List Arrival) → least ≤ more → are_in_order more xs ≡ true → are_in_order least xs ≡ true
order_weaker least more [] low h = refl
order_weaker least more (a ∷ xs) low h =
    let o = order_split more a.tick (are_in_order a.tick xs) h in
    let first = o.0 in
    order_of least a.tick (are_in_order a.tick xs) (omega (arith, low, first)) o.1 o.2

at_ordered : (n least : ℕ) (routines : List ℕ) → least ≤ n → n < MAX_TICKS → are_in_order least (arrived_at n routines) ≡ true
at_ordered n least [] low limit = refl
at_ordered n least (i ∷ rest) low limit = order_of least n (are_in_order n (arrived_at n rest)) low limit (at_ordered n n rest (omega arith) limit)

ordered_one : (n least : ℕ) (a : Arrival) (ys : List Arrival) (b : Bool) → nat_lt a.tick n ≡ b → least ≤ a.tick → a.tick < MAX_TICKS
    → (nat_lt a.tick n ≡ true → are_in_order a.tick ys ≡ true) → are_in_order least ys ≡ true
    → are_in_order least (cond b (a ∷ ys) ys) ≡ true
ordered_one n least a ys true is low limit from rest = order_of least a.tick (are_in_order a.tick ys) low limit (from is)
ordered_one n least a ys false is low limit from rest = rest

ordered_more : (n least : ℕ) (routines : List ℕ) (xs : List Arrival) → least ≤ n → n < MAX_TICKS → are_in_order least xs ≡ true
    → are_in_order least (with_arrived n routines xs) ≡ true
ordered_more n least routines [] low limit h = at_ordered n least routines low limit
ordered_more n least routines (a ∷ xs) low limit h =
    let o = order_split least a.tick (are_in_order a.tick xs) h in
    let first = o.0 in
    joined (nat_lt a.tick n)
    (ordered_one n least a (with_arrived n routines xs) (nat_lt a.tick n) refl o.0 o.1
    (λ before. ordered_more n a.tick routines xs (let past = ltb-true _ _ before in omega (arith, past)) limit o.2)
    (ordered_more n least routines xs low limit (order_weaker least a.tick xs first o.2)))
  where
    joined : (b : Bool) → are_in_order least (cond b (a ∷ with_arrived n routines xs) (with_arrived n routines xs)) ≡ true
        → are_in_order least (cond b (a ∷ filter (is_past n) xs) (filter (is_past n) xs) ++ arrived_at n routines) ≡ true
    joined true h = h
    joined false h = h

at_known : (m n : ℕ) (routines : List ℕ) → AllByRecursion (λ i. i < m) routines → AllByRecursion (λ (a : Arrival). a.routine < m) (arrived_at n routines)
at_known m n [] all = tt
at_known m n (i ∷ rest) all = (all.0, at_known m n rest all.1)

pub takes_any_arrivals : TakesAnyArrivals
takes_any_arrivals S n routines arrivals limit known h = record {
  known =
      all_append (λ (a : Arrival). a.routine < length S.routines) (filter (is_past n) arrivals) (arrived_at n routines)
      (all_kept (λ (a : Arrival). a.routine < length S.routines) (is_past n) arrivals h.known)
      (at_known (length S.routines) n routines known);
  ordered = ordered_more n 0 routines arrivals (omega arith) limit h.ordered;
}
