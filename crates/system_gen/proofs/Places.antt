-- The order of tasks has places of the declared tasks alone.
use Rattle.std.proofs.Common.{ℕ, zero, suc, ◌+◌, ◌<◌, ◌≤◌, Bool, true, false, cond, eqb, List, [], ◌∷◌, ◌++◌, length, map, get_or, subst, arith}
use Rattle.std.specs.List.{filter, AllByRecursion}
use Rattle.std.proofs.lemmas.List.{length-map}
use Rattle.osek_base.specs.declared.limits.TheConstants.{MAX_TASK_PRIORITY}
use Rattle.osek_base.specs.Lists.{below}
use Rattle.osek_base.specs.Numbering.{places_of, order_below, task_order}
use Rattle.system_gen.specs.Order.{ArePlaces}

abbrev EachBelow : ℕ → List ℕ → Type 0
EachBelow m xs = AllByRecursion (λ i. i < m) xs

each_append : (m : ℕ) (xs ys : List ℕ) → EachBelow m xs → EachBelow m ys → EachBelow m (xs ++ ys)
each_append m [] ys a b = b
each_append m (x ∷ xs) ys a b = (a.0, each_append m xs ys a.1 b)

each_filter : (m : ℕ) (test : ℕ → Bool) (xs : List ℕ) → EachBelow m xs → EachBelow m (filter test xs)
each_filter m test [] a = tt
each_filter m test (x ∷ xs) a =
    elim (test x) as (λ b. EachBelow m (cond b (x ∷ filter test xs) (filter test xs))) [ true ↦ (a.0, each_filter m test xs a.1) | false ↦ each_filter m test xs a.1 ]

each_below : (m n : ℕ) → n ≤ m → EachBelow m (below n)
each_below m zero le = tt
each_below m (suc n) le = each_append m (below n) (n ∷ []) (each_below m n (omega arith)) (omega arith, tt)

each_order : (ps : List ℕ) (p : ℕ) → EachBelow (length ps) (order_below ps p)
each_order ps zero = tt
each_order ps (suc p) =
    each_append (length ps) (places_of ps p) (order_below ps p) (each_filter (length ps) (λ i. eqb (get_or ps i 0) p) (below (length ps)) (each_below (length ps) (length ps) (omega arith))) (each_order ps p)

places_from_each : (m : ℕ) (xs : List ℕ) → EachBelow m xs → ArePlaces m xs
places_from_each m [] h k lt = absurd (omega arith)
places_from_each m (x ∷ xs) h zero lt = h.0
places_from_each m (x ∷ xs) h (suc k) lt = places_from_each m xs h.1 k (omega arith)

pub order_each : (ps : List ℕ) → AllByRecursion (λ i. i < length ps) (task_order ps)
unfolding task_order
order_each ps = each_order ps (MAX_TASK_PRIORITY + 1)

pub order_places : (ps : List ℕ) → ArePlaces (length ps) (task_order ps)
unfolding task_order
order_places ps = places_from_each (length ps) (order_below ps (MAX_TASK_PRIORITY + 1)) (each_order ps (MAX_TASK_PRIORITY + 1))

-- the same for the priorities of some tasks
pub order_places_of : {X : Type 0} (priority : X → ℕ) (tasks : List X) → ArePlaces (length tasks) (task_order (map priority tasks))
order_places_of priority tasks =
    subst (λ n. ArePlaces n (task_order (map priority tasks))) (length-map tasks priority) (order_places (map priority tasks))
