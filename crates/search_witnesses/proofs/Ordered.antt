-- Arrivals in order, of which those from one on come late.
use Rattle.std.proofs.Common.{ℕ, ◌≡◌, ◌≤◌, Bool, true, false, List, [], ◌∷◌, drop, length, ◌<◌, ◌+◌, suc, get_or, refl, sym, ◌∙◌, ap, arith, add-one}
use Rattle.std.specs.Prelude.{◌==◌, ◌&&◌, nat_le, nat_lt, not}
use Rattle.std.specs.List.{list_all}
use Rattle.std.proofs.Math.Seq.{drop-cons}
use Rattle.osek_base.specs.declared.arrivals.Arrival.{Arrival}
use Rattle.osek_base.specs.ArrivalList.{are_in_order}
use Rattle.kernel.proofs.ArrivalLemmas.{IsInOrder, order_split}
use Rattle.search_witnesses.specs.Listing.{come_once, comes_behind}

-- of arrivals in order, those that are left answer for all
pub record IsLeft (test : List Arrival → Bool) (xs : List Arrival) (i : ℕ) : Type 0 where
  pub same : test (drop i xs) ≡ test xs
  pub ordered : are_in_order 0 (drop i xs) ≡ true

late : (r t : ℕ) (a : Arrival) → t ≤ a.tick → comes_behind r t a ≡ true
late r t a high = go (a.routine == r) (nat_lt a.tick t) refl
  where
    go : (b c : Bool) → nat_lt a.tick t ≡ c → not (b && c) ≡ true
    go false c is = refl
    go true false is = refl
    go true true is = absurd (grind (arith, high, is))

both : (b c : Bool) → b ≡ true → c ≡ true → (b && c) ≡ true
both true c first second = second
both false c first second = first

all_late : (r t least : ℕ) (xs : List Arrival) → are_in_order least xs ≡ true → t ≤ least
    → list_all (comes_behind r t) xs ≡ true
all_late r t least [] ordered low = refl
all_late r t least (a ∷ xs) ordered low =
    let o : IsInOrder least a xs = order_split least a xs ordered in
    let first = o.first in
    let high : t ≤ a.tick = omega (arith, first, low) in
    both (comes_behind r t a) (list_all (comes_behind r t) xs) (late r t a high)
    (all_late r t a.tick xs o.others high)

-- arrivals in order are so from an earlier tick on
pub lower : (least first : ℕ) (xs : List Arrival) → least ≤ first → are_in_order first xs ≡ true
    → are_in_order least xs ≡ true
lower least first [] low ordered = refl
lower least first (a ∷ xs) low ordered =
    let o : IsInOrder first a xs = order_split first a xs ordered in
    let high = o.first in
    let is : nat_le least a.tick ≡ true = grind (arith, low, high) in
    rw (is, o.limit) o.others

-- ---- one by one

module _ (test : List Arrival → Bool) (xs : List Arrival) (i : ℕ) (a : Arrival)
    (left : IsLeft test xs i) (inside : i < length xs) (found : a ≡ get_or xs i a) where
  abbrev rest : List Arrival
  rest = drop (i + 1) xs

  first_left : drop i xs ≡ a ∷ rest
  first_left =
      drop-cons xs i a inside ∙ ap (λ (v : Arrival). v ∷ drop (suc i) xs) (sym found)
      ∙ ap (λ k. a ∷ drop k xs) (sym (add-one i))

  in_order : are_in_order 0 (a ∷ rest) ≡ true
  in_order = ap (are_in_order 0) (sym first_left) ∙ left.ordered

  pub rest_ordered : are_in_order 0 (drop (i + 1) xs) ≡ true
  rest_ordered = lower 0 a.tick rest (omega arith) (order_split 0 a rest in_order).others

  -- where the first makes no difference, the others answer
  pub one_more : test (a ∷ drop (i + 1) xs) ≡ test (drop (i + 1) xs) → IsLeft test xs (i + 1)
  one_more none = record {
    same = sym none ∙ ap test (sym first_left) ∙ left.same;
    ordered = rest_ordered;
  }

  pub all_from_here : (b : Bool) → test (a ∷ drop (i + 1) xs) ≡ b → b ≡ test xs
  all_from_here b is = sym is ∙ ap test (sym first_left) ∙ left.same

-- where the first that is left comes late, all do
pub first_late : (r t : ℕ) (xs : List Arrival) (i : ℕ) (a : Arrival)
    → IsLeft (list_all (comes_behind r t)) xs i → i < length xs → a ≡ get_or xs i a
    → t ≤ a.tick → true ≡ list_all (comes_behind r t) xs
first_late r t xs i a left inside found high =
    let test : List Arrival → Bool = list_all (comes_behind r t) in
    let o : IsInOrder 0 a (drop (i + 1) xs) =
    order_split 0 a (drop (i + 1) xs) (in_order test xs i a left inside found) in
    all_from_here test xs i a left inside found true
    (both (comes_behind r t a) (test (drop (i + 1) xs)) (late r t a high)
    (all_late r t a.tick (drop (i + 1) xs) o.others high))

-- one of another routine makes no difference
pub other_routine : (r t : ℕ) (xs : List Arrival) (i : ℕ) (a : Arrival)
    → IsLeft (list_all (comes_behind r t)) xs i → i < length xs → a ≡ get_or xs i a
    → (a.routine == r) ≡ false → IsLeft (list_all (comes_behind r t)) xs (i + 1)
other_routine r t xs i a left inside found other =
    one_more (list_all (comes_behind r t)) xs i a left inside found (rw other refl)

-- nor does one behind which none of its routine comes in its tick
pub once_from_rest : (xs : List Arrival) (i : ℕ) (a : Arrival)
    → IsLeft come_once xs i → i < length xs → a ≡ get_or xs i a
    → list_all (comes_behind a.routine (a.tick + 1)) (drop (i + 1) xs) ≡ true
    → IsLeft come_once xs (i + 1)
once_from_rest xs i a left inside found later =
    one_more come_once xs i a left inside found
    (ap (λ b. b && come_once (drop (i + 1) xs)) later)
