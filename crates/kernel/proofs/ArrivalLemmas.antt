-- Arrivals in order: those of one tick stand together, from the cursor on.
use Rattle.std.proofs.Common.{◌≡◌, ℕ, zero, suc, ◌+◌, ◌-◌, ◌<◌, ◌≤◌, true, false, List, [], ◌∷◌, ◌++◌, drop, get_or, take, map, length, refl, sym, ◌∙◌, ap, ap₂, subst, append_assoc, arith}
use Rattle.std.specs.Prelude.{◌==◌, nat_le, nat_lt, slice_range}
use Rattle.std.specs.List.{All, AllByRecursion, filter}
use Rattle.std.proofs.Math.Seq.{drop-cons}
use Rattle.std.proofs.Math.ListN.{drop_of_length-le}
use Rattle.std.proofs.Math.Numerals.{add-one}
use Rattle.std.proofs.lemmas.Bool.{leb-true}
use Rattle.std.proofs.lemmas.List.{append-nil, drop-map, map-append, take-map, take_more}
use Rattle.std.proofs.lemmas.List.Elements.{All-from_recursion, recursion_from_All}
use Rattle.osek_base.specs.declared.limits.TheConstants.{MAX_TICKS}
use Rattle.osek_base.specs.declared.arrivals.Arrival.{Arrival}
use Rattle.osek_base.specs.ArrivalList.{are_in_order, is_arrival_list}
use Rattle.osek_base.specs.Trace.{arriving}
use Rattle.osek_base.proofs.PlaceLemmas.{and_split}
use Rattle.law_runs.proofs.Lists.{all_kept}
use Rattle.kernel.specs.Progress.{AreFree, AreLeft, HaveArrived}

-- a list in order: its first tick, and its rest
pub record IsInOrder (least : ℕ) (a : Arrival) (rest : List Arrival) : Type 0 where
  pub first : least ≤ a.tick
  pub limit : nat_lt a.tick MAX_TICKS ≡ true
  pub others : are_in_order a.tick rest ≡ true

pub order_split : (least : ℕ) (a : Arrival) (rest : List Arrival) → are_in_order least (a ∷ rest) ≡ true → IsInOrder least a rest
order_split least a rest h =
    let parts = and_split _ _ h in
    let front = and_split _ _ parts.0 in
    record { first = leb-true _ _ front.0; limit = front.1; others = parts.1 }

-- from a later tick on, where the first arrival isn't before it
order_later : (least later : ℕ) (a : Arrival) (rest : List Arrival) → are_in_order least (a ∷ rest) ≡ true → later ≤ a.tick
    → are_in_order later (a ∷ rest) ≡ true
order_later least later a rest h low =
    let o : IsInOrder least a rest = order_split least a rest h in
    let reached : nat_le later a.tick ≡ true = grind (arith, low) in
    rw (reached, o.limit) o.others

-- an arrival at another tick, and one at the tick, in front of the others
pub arriving_other : (a : Arrival) (rest : List Arrival) (t : ℕ) → (a.tick == t) ≡ false → arriving (a ∷ rest) t ≡ arriving rest t
arriving_other a rest t other = rw other refl

pub arriving_first : (a : Arrival) (rest : List Arrival) (t : ℕ) → (a.tick == t) ≡ true → arriving (a ∷ rest) t ≡ a.routine ∷ arriving rest t
arriving_first a rest t same = rw same refl

-- nothing arrives before the first tick of a list in order
pub none_before : (least t : ℕ) (xs : List Arrival) → are_in_order least xs ≡ true → t < least → arriving xs t ≡ []
none_before least t [] h low = refl
none_before least t (a ∷ rest) h low =
    let o : IsInOrder least a rest = order_split least a rest h in
    let later : t < a.tick = omega (arith, o.first) in
    let other : (a.tick == t) ≡ false = grind (arith, later) in
    arriving_other a rest t other ∙ none_before a.tick t rest o.others later

-- ---- those of a tick are taken one by one

range_more : {X : Type 0} (xs : List X) (a n : ℕ) (d : X) → a ≤ n → n < length xs → slice_range xs a (n + 1) ≡ slice_range xs a n ++ get_or xs n d ∷ []
range_more xs zero n d low inside =
    let more : n + 1 - 0 ≡ n + 1 = omega arith in
    let same : n - 0 ≡ n = omega arith in
    ap (λ k. take k xs) more ∙ take_more xs n d inside ∙ ap (λ k. take k xs ++ get_or xs n d ∷ []) (sym same)
range_more [] (suc a) n d low inside = absurd (omega arith)
range_more (x ∷ xs) (suc a) zero d low inside = absurd (omega arith)
range_more (x ∷ xs) (suc a) (suc n) d low inside =
    let more : suc n + 1 - suc a ≡ n + 1 - a = omega arith in
    let same : suc n - suc a ≡ n - a = omega arith in
    ap (λ k. take k (drop a xs)) more ∙ range_more xs a n d (omega arith) (omega arith)
    ∙ ap (λ k. take k (drop a xs) ++ get_or xs n d ∷ []) (sym same)

abbrev routines_of : List Arrival → List ℕ
routines_of xs = map (λ (a : Arrival). a.routine) xs

-- of a list, the arrivals from a cursor up to another are of the tick, and those behind complete the whole
pub record AreTaken (list : List Arrival) (tick first next : ℕ) : Type 0 where
  pub within : next ≤ length list
  pub forward : first ≤ next
  pub ordered : are_in_order tick (drop next list) ≡ true
  pub same : (t : ℕ) → tick < t → arriving list t ≡ arriving (drop next list) t
  pub whole : arriving list tick ≡ routines_of (slice_range list first next) ++ arriving (drop next list) tick

pub taken_none : (list : List Arrival) (tick first : ℕ) → AreLeft list first tick → AreTaken list tick first first
taken_none list tick first left =
    let none : first - first ≡ 0 = omega arith in
    record {
      within = left.within;
      forward = omega arith;
      ordered = left.ordered;
      same = λ t later. left.same t (omega arith);
      whole =
          left.same tick (omega arith)
          ∙ ap (λ k. routines_of (take k (drop first list)) ++ arriving (drop first list) tick) (sym none);
    }

-- one more arrival at the tick
pub taken_more : (list : List Arrival) (tick first next : ℕ) (a : Arrival) → AreTaken list tick first next
    → next < length list → a ≡ get_or list next a → (get_or list next a).tick ≡ tick → AreTaken list tick first (next + 1)
taken_more list tick first next a f low found is =
    let at : a.tick ≡ tick = ap (λ (v : Arrival). v.tick) found ∙ is in
    let rest : List Arrival = drop (suc next) list in
    let here : drop next list ≡ a ∷ rest = drop-cons list next a low ∙ ap (λ v. v ∷ rest) (sym found) in
    let o : IsInOrder tick a rest = order_split tick a rest (ap (are_in_order tick) (sym here) ∙ f.ordered) in
    let now_at : (a.tick == tick) ≡ true = grind (arith, at) in
    let more : drop (next + 1) list ≡ rest = ap (λ k. drop k list) (add-one next) in
    let taken : routines_of (slice_range list first (next + 1)) ≡ routines_of (slice_range list first next) ++ a.routine ∷ [] =
    ap routines_of (range_more list first next a f.forward low ∙ ap (λ v. slice_range list first next ++ v ∷ []) (sym found))
    ∙ map-append (λ (a : Arrival). a.routine) (slice_range list first next) (a ∷ []) in
    let forward = f.forward in
    record {
      within = omega arith;
      forward = omega (arith, forward);
      ordered = ap (are_in_order tick) more ∙ subst (λ n. are_in_order n rest ≡ true) at o.others;
      same = λ t later.
          let other : (a.tick == t) ≡ false = grind (arith, at, later) in
          f.same t later ∙ ap (λ v. arriving v t) here ∙ arriving_other a rest t other ∙ ap (λ v. arriving v t) (sym more);
      whole =
          f.whole
          ∙ ap (λ v. routines_of (slice_range list first next) ++ v) (ap (λ v. arriving v tick) here ∙ arriving_first a rest tick now_at)
          ∙ sym (append_assoc (routines_of (slice_range list first next)) (a.routine ∷ []) (arriving rest tick))
          ∙ ap₂ (λ u v. u ++ arriving v tick) (sym taken) (sym more);
    }

-- no arrival at the tick is left
all_arrived : (list rest : List Arrival) (tick first next : ℕ) → AreTaken list tick first next
    → drop next list ≡ rest → are_in_order (tick + 1) rest ≡ true → HaveArrived list tick first next
all_arrived list rest tick first next f here ordered =
    let later : are_in_order (tick + 1) (drop next list) ≡ true = ap (are_in_order (tick + 1)) here ∙ ordered in
    record {
      left = record {
        within = f.within;
        ordered = later;
        same = λ t low. f.same t (omega arith);
      };
      forward = f.forward;
      these =
          f.whole
          ∙ ap (λ v. routines_of (slice_range list first next) ++ v) (none_before (tick + 1) tick (drop next list) later (omega arith))
          ∙ append-nil (routines_of (slice_range list first next))
          ∙ sym (take-map (λ (a : Arrival). a.routine) (next - first) (drop first list))
          ∙ ap (take (next - first)) (sym (drop-map (λ (a : Arrival). a.routine) first list));
    }

pub arrived_at_end : (list : List Arrival) (tick first next : ℕ) → AreTaken list tick first next
    → length list ≤ next → HaveArrived list tick first next
arrived_at_end list tick first next f end =
    all_arrived list [] tick first next f (drop_of_length-le list end) refl

pub arrived_until : (list : List Arrival) (tick first next : ℕ) (a : Arrival) → AreTaken list tick first next
    → next < length list → a ≡ get_or list next a → ((get_or list next a).tick ≡ tick → ⊥) → HaveArrived list tick first next
arrived_until list tick first next a f low found not_at =
    let rest : List Arrival = drop (suc next) list in
    let here : drop next list ≡ a ∷ rest = drop-cons list next a low ∙ ap (λ v. v ∷ rest) (sym found) in
    let ordered : are_in_order tick (a ∷ rest) ≡ true = ap (are_in_order tick) (sym here) ∙ f.ordered in
    let o : IsInOrder tick a rest = order_split tick a rest ordered in
    let other : a.tick ≡ tick → ⊥ = λ e. not_at (ap (λ (v : Arrival). v.tick) (sym found) ∙ e) in
    let later : tick + 1 ≤ a.tick = omega (arith, o.first, other) in
    all_arrived list (a ∷ rest) tick first next f here (order_later tick (tick + 1) a rest ordered later)

-- before the first tick all are left
pub all_left : (list : List Arrival) → is_arrival_list list ≡ true → AreLeft list 0 0
all_left list h = record {
  within = omega arith;
  ordered = (and_split _ _ h).1;
  same = λ t low. refl;
}

-- ---- the ticks before the next

module _ (list : List Arrival) (cursor tick : ℕ) (left : AreLeft list cursor tick) where
  free_from : (most n : ℕ) → n ≤ most → are_in_order (tick + n) (drop cursor list) ≡ true
      → AreFree list cursor tick most n
  free_from most n few ordered = record {
    few = few;
    none = λ k low. left.same (tick + k) (omega arith) ∙ none_before (tick + n) (tick + k) (drop cursor list) ordered (omega (arith, low));
    left = record {
      within = left.within;
      ordered = ordered;
      same = λ t low. left.same t (omega (arith, low));
    };
  }

  module _ (a : Arrival) (low : cursor < length list) (found : a ≡ get_or list cursor a) where
    abbrev later_ones : List Arrival
    later_ones = drop (suc cursor) list

    here : drop cursor list ≡ a ∷ later_ones
    here = drop-cons list cursor a low ∙ ap (λ v. v ∷ later_ones) (sym found)

    first_left : IsInOrder tick a later_ones
    first_left = order_split tick a later_ones (sym (ap (are_in_order tick) here) ∙ left.ordered)

    pub not_before : tick ≤ a.tick
    not_before = first_left.first

    pub free_until : (most n : ℕ) → n ≤ most → n ≤ a.tick - tick → AreFree list cursor tick most n
    free_until most n few until =
        let first = not_before in
        free_from most n few (ap (are_in_order (tick + n)) here
        ∙ order_later tick (tick + n) a later_ones (sym (ap (are_in_order tick) here) ∙ left.ordered)
        (omega (arith, until, first)))

-- from an earlier tick on, the same stand in order
order_earlier : (least earlier : ℕ) (xs : List Arrival) → are_in_order least xs ≡ true → earlier ≤ least → are_in_order earlier xs ≡ true
order_earlier least earlier [] h low = refl
order_earlier least earlier (a ∷ rest) h low =
    let o : IsInOrder least a rest = order_split least a rest h in
    let first = o.first in
    order_later least earlier a rest h (omega (arith, first, low))

-- and some of those ticks later
pub left_behind : (list : List Arrival) (cursor tick most n m : ℕ) → AreLeft list cursor tick
    → AreFree list cursor tick most n → m ≤ n → AreLeft list cursor (tick + m)
left_behind list cursor tick most n m left free few = record {
  within = left.within;
  ordered = order_earlier (tick + n) (tick + m) (drop cursor list) free.left.ordered (omega (arith, few));
  same = λ t low. left.same t (omega (arith, low));
}

-- none arrived between a cursor and itself
pub none_between : (xs : List ℕ) (cursor : ℕ) → slice_range xs cursor cursor ≡ []
none_between xs cursor =
    let none : cursor - cursor ≡ 0 = omega arith in
    ap (λ k. take k (drop cursor xs)) none

-- ---- they are routines of the system

routines_known : (m : ℕ) (xs : List Arrival) → AllByRecursion (λ (a : Arrival). a.routine < m) xs → AllByRecursion (λ i. i < m) (routines_of xs)
routines_known m [] all = tt
routines_known m (a ∷ xs) all = (all.0, routines_known m xs all.1)

pub arriving_known : (m : ℕ) (xs : List Arrival) (t : ℕ) → All (λ (a : Arrival). a.routine < m) xs → All (λ i. i < m) (arriving xs t)
arriving_known m xs t known =
    All-from_recursion (λ i. i < m) (arriving xs t)
    (routines_known m (filter (λ (a : Arrival). a.tick == t) xs)
    (all_kept (λ (a : Arrival). a.routine < m) (λ (a : Arrival). a.tick == t) xs (recursion_from_All (λ (a : Arrival). a.routine < m) xs known)))
