-- The greatest of some numbers, tasks that stand by falling priority, and ceilings by task numbers.
use Rattle.std.proofs.Common.{◌≡◌, ℕ, zero, suc, ◌<◌, ◌≤◌, ◌⊎◌, Bool, true, false, cond, ◌||◌, nat_le, List, [], ◌∷◌, ◌++◌, map, length, refl, sym, ◌∙◌, ap, ap₂, subst, inl, inr, arith}
use Rattle.std.specs.Prelude.{Some, ◌==◌, slice_index_or}
use Rattle.std.specs.List.{filter, list_all, find, Contains, AllByRecursion}
use Rattle.std.specs.Option.{option_map}
use Rattle.std.proofs.lemmas.Bool.{cases_lt, and_parts, or_right}
use Rattle.std.proofs.lemmas.List.{map-append, append-nil}
use Rattle.osek_base.specs.Lists.{below, greatest, is_in}
use Rattle.osek_base.specs.System.{System, Task, task, no_task, priority_of, lists, lists_resource}
use Rattle.osek_base.specs.Ceiling.{declared_ceiling, top_priority}
use Rattle.osek_base.specs.Agree.{kept}
use Rattle.osek_base.specs.Proper.{are_falling}
use Rattle.partition_check.proofs.Ranks.{clash, kept_more}

-- ---- tests

pub all_at : {X : Type 0} (test : X → Bool) (xs : List X) (i : ℕ) (d : X) → list_all test xs ≡ true → i < length xs
    → test (slice_index_or xs i d) ≡ true
all_at test [] i d all h = absurd (omega (arith, h))
all_at test (x ∷ xs) zero d all h = (and_parts (test x) (list_all test xs) all).0
all_at test (x ∷ xs) (suc i) d all h =
    all_at test xs i d (and_parts (test x) (list_all test xs) all).1 (omega (arith, h))

-- ---- the greatest

pub greatest_bound : (k : ℕ) (f : ℕ → ℕ) (n : ℕ) → ((t : ℕ) → t < n → f t ≤ k) → greatest (map f (below n)) ≤ k
greatest_bound k f zero all = omega arith
greatest_bound k f (suc n) all =
    subst (λ xs. greatest xs ≤ k) (sym (map-append f (below n) (n ∷ [])))
    (go (map f (below n)) (greatest_bound k f n (λ t h. all t (omega (arith, h)))))
  where
    go : (xs : List ℕ) → greatest xs ≤ k → greatest (xs ++ f n ∷ []) ≤ k
    go [] h = omega (arith, all n (omega arith))
    go (x ∷ xs) h = omega (arith, h, go xs (omega (arith, h)))

pub below_front : {X : Type 0} (f : ℕ → X) (n : ℕ) → map f (below (suc n)) ≡ f zero ∷ map (λ i. f (suc i)) (below n)
below_front f zero = refl
below_front f (suc n) =
    map-append f (below (suc n)) (suc n ∷ [])
    ∙ ap (λ xs. xs ++ f (suc n) ∷ []) (below_front f n)
    ∙ ap (λ xs. f zero ∷ xs) (sym (map-append (λ i. f (suc i)) (below n) (n ∷ [])))

-- the first, where none is greater
pub greatest_first : (f : ℕ → ℕ) (n : ℕ) → 0 < n → ((t : ℕ) → t < n → f t ≤ f 0) → greatest (map f (below n)) ≡ f 0
greatest_first f zero some all = absurd (omega (arith, some))
greatest_first f (suc n) some all =
    ap greatest (below_front f n)
    ∙ omega (arith, greatest_bound (f 0) (λ i. f (suc i)) n (λ t h. all (suc t) (omega (arith, h))))

-- a list by its numbers
pub by_number : {X : Type 0} (xs : List X) (d : X) → map (λ i. slice_index_or xs i d) (below (length xs)) ≡ xs
by_number [] d = refl
by_number (x ∷ xs) d =
    below_front (λ i. slice_index_or (x ∷ xs) i d) (length xs) ∙ ap (λ rest. x ∷ rest) (by_number xs d)

pub filter_map_list : {X Y : Type 0} (f : X → Y) (test : Y → Bool) (xs : List X)
    → filter test (map f xs) ≡ map f (filter (λ x. test (f x)) xs)
filter_map_list f test [] = refl
filter_map_list f test (x ∷ xs) = go (test (f x)) (filter_map_list f test xs)
  where
    go : (b : Bool) → filter test (map f xs) ≡ map f (filter (λ x. test (f x)) xs)
        → cond b (f x ∷ filter test (map f xs)) (filter test (map f xs))
        ≡ map f (cond b (x ∷ filter (λ x. test (f x)) xs) (filter (λ x. test (f x)) xs))
    go true h = ap (λ rest. f x ∷ rest) h
    go false h = h

pub map_twice : {X Y Z : Type 0} (g : Y → Z) (f : X → Y) (xs : List X) → map g (map f xs) ≡ map (λ x. g (f x)) xs
map_twice g f [] = refl
map_twice g f (x ∷ xs) = ap (λ rest. g (f x) ∷ rest) (map_twice g f xs)

-- a ceiling by the numbers of the tasks that list the resource
pub ceiling_kept : (S : System) (r : ℕ)
    → declared_ceiling S r ≡ greatest (map (priority_of S) (kept (λ t. lists_resource S t r) (length S.tasks)))
ceiling_kept S r =
    ap (λ (all : List Task). greatest (map (λ (a : Task). a.priority) (filter (lists r) all))) (sym (by_number S.tasks no_task))
    ∙ ap (λ (all : List Task). greatest (map (λ (a : Task). a.priority) all)) (filter_map_list (task S) (lists r) (below (length S.tasks)))
    ∙ ap greatest (map_twice (λ (a : Task). a.priority) (task S) (kept (λ t. lists_resource S t r) (length S.tasks)))

pub top_kept : (S : System) → top_priority S ≡ greatest (map (priority_of S) (below (length S.tasks)))
top_kept S =
    ap (λ (all : List Task). greatest (map (λ (a : Task). a.priority) all)) (sym (by_number S.tasks no_task))
    ∙ ap greatest (map_twice (λ (a : Task). a.priority) (task S) (below (length S.tasks)))

-- ---- numbers kept

-- a test that no later number passes
pub kept_short : (test : ℕ → Bool) (k n : ℕ) → k ≤ n → ((t : ℕ) → k ≤ t → t < n → test t ≡ false) → kept test n ≡ kept test k
kept_short test k zero h none = let e : zero ≡ k = omega (arith, h) in ap (kept test) e
kept_short test k (suc n) h none = go (λ le. kept_short test k n le (λ t a b. none t a (omega (arith, b)))) (cases_lt n k)
  where
    go : (k ≤ n → kept test n ≡ kept test k) → (n < k) ⊎ (k ≤ n) → kept test (suc n) ≡ kept test k
    go so_far (inl more) = let e : suc n ≡ k = omega (arith, h, more) in ap (kept test) e
    go so_far (inr less) =
        kept_more test n ∙ ap (λ b. kept test n ++ cond b (n ∷ []) []) (none n less (omega arith))
        ∙ append-nil (kept test n) ∙ so_far less

pub kept_same : (f g : ℕ → Bool) (n : ℕ) → ((t : ℕ) → t < n → f t ≡ g t) → kept f n ≡ kept g n
kept_same f g zero same = refl
kept_same f g (suc n) same =
    kept_more f n
    ∙ ap₂ (λ xs b. xs ++ cond b (n ∷ []) []) (kept_same f g n (λ t h. same t (omega (arith, h)))) (same n (omega arith))
    ∙ sym (kept_more g n)

pub map_kept : {X : Type 0} (f g : ℕ → X) (test : ℕ → Bool) (n : ℕ) → ((t : ℕ) → t < n → f t ≡ g t)
    → map f (kept test n) ≡ map g (kept test n)
map_kept f g test zero same = refl
map_kept {X} f g test (suc n) same =
    ap (map f) (kept_more test n) ∙ map-append f (kept test n) (cond (test n) (n ∷ []) [])
    ∙ ap₂ (λ xs ys. xs ++ ys) (map_kept f g test n (λ t h. same t (omega (arith, h)))) (go (test n))
    ∙ sym (map-append g (kept test n) (cond (test n) (n ∷ []) [])) ∙ sym (ap (map g) (kept_more test n))
  where
    go : (b : Bool) → map f (cond b (n ∷ []) []) ≡ map g (cond b (n ∷ []) [])
    go true = ap (λ (x : X). x ∷ []) (same n (omega arith))
    go false = refl

pub map_below : {X : Type 0} (f g : ℕ → X) (n : ℕ) → ((t : ℕ) → t < n → f t ≡ g t) → map f (below n) ≡ map g (below n)
map_below f g zero same = refl
map_below {X} f g (suc n) same =
    map-append f (below n) (n ∷ [])
    ∙ ap₂ (λ xs (x : X). xs ++ x ∷ []) (map_below f g n (λ t h. same t (omega (arith, h)))) (same n (omega arith))
    ∙ sym (map-append g (below n) (n ∷ []))

-- ---- falling priorities

pub falling_first : (limit : ℕ) (all : List Task) (b : ℕ) → are_falling limit all ≡ true → b < length all
    → (slice_index_or all b no_task).priority ≤ limit
falling_first limit [] b h inside = absurd (omega (arith, inside))
falling_first limit (a ∷ all) zero h inside =
    grind (arith, (and_parts (nat_le a.priority limit) (are_falling a.priority all) h).0)
falling_first limit (a ∷ all) (suc b) h inside =
    let both = and_parts (nat_le a.priority limit) (are_falling a.priority all) h in
    grind (arith, both.0, falling_first a.priority all b both.1 (omega (arith, inside)))

pub falling_pair : (limit : ℕ) (all : List Task) (a b : ℕ) → are_falling limit all ≡ true → a ≤ b → b < length all
    → (slice_index_or all b no_task).priority ≤ (slice_index_or all a no_task).priority
falling_pair limit [] a b h le inside = absurd (omega (arith, inside))
falling_pair limit (x ∷ all) zero zero h le inside = omega arith
falling_pair limit (x ∷ all) zero (suc b) h le inside =
    falling_first x.priority all b (and_parts (nat_le x.priority limit) (are_falling x.priority all) h).1 (omega (arith, inside))
falling_pair limit (x ∷ all) (suc a) zero h le inside = absurd (omega (arith, le))
falling_pair limit (x ∷ all) (suc a) (suc b) h le inside =
    falling_pair x.priority all a b (and_parts (nat_le x.priority limit) (are_falling x.priority all) h).1 (omega (arith, le)) (omega (arith, inside))

-- ---- what a task lists

-- the ceiling of what a task lists is at least its priority
pub ceiling_covers : (r : ℕ) (all : List Task) (t : ℕ) → t < length all → lists r (slice_index_or all t no_task) ≡ true
    → (slice_index_or all t no_task).priority ≤ greatest (map (λ (a : Task). a.priority) (filter (lists r) all))
ceiling_covers r [] t inside h = absurd (omega (arith, inside))
ceiling_covers r (a ∷ all) zero inside h =
    rw h (omega arith)
ceiling_covers r (a ∷ all) (suc t) inside h =
    go (lists r a) (ceiling_covers r all t (omega (arith, inside)) h)
  where
    go : (b : Bool) → (slice_index_or all t no_task).priority ≤ greatest (map (λ (a : Task). a.priority) (filter (lists r) all))
        → (slice_index_or all t no_task).priority
        ≤ greatest (map (λ (a : Task). a.priority) (cond b (a ∷ filter (lists r) all) (filter (lists r) all)))
    go true so_far = omega (arith, so_far)
    go false so_far = so_far

-- what holds of what is in a list holds of each
pub each_in : (P : ℕ → Type 0) (ns : List ℕ) → ((r : ℕ) → is_in r ns ≡ true → P r) → AllByRecursion P ns
each_in P [] all = tt
each_in P (n ∷ ns) all =
    let here : (n == n) ≡ true = grind arith in
    (all n (ap (λ b. b || is_in n ns) here), each_in P ns (λ r h. all r (or_right (n == r) (is_in r ns) h)))

-- a number in a list is one of it
pub in_Contains : (r : ℕ) (ns : List ℕ) → is_in r ns ≡ true → Contains ns r
in_Contains r [] h = absurd (clash (sym h))
in_Contains r (n ∷ ns) h = go (n == r) refl h (in_Contains r ns)
  where
    go : (b : Bool) → (n == r) ≡ b → (b || is_in r ns) ≡ true → (is_in r ns ≡ true → Contains ns r) → Contains (n ∷ ns) r
    go true e k rest = (zero, omega arith, grind (arith, e))
    go false e k rest = let there = rest k in (suc there.0, omega (arith, there.1), there.2)

pub find_in : (test : ℕ → Bool) (ns : List ℕ) (r : ℕ) → find test ns ≡ Some r → is_in r ns ≡ true
find_in test [] r h = absurd (grind arith)
find_in test (n ∷ ns) r h = go (test n) h (find_in test ns r)
  where
    go : (b : Bool) → cond b (Some n) (find test ns) ≡ Some r → (find test ns ≡ Some r → is_in r ns ≡ true)
        → ((n == r) || is_in r ns) ≡ true
    go true e rest = let same : (n == r) ≡ true = grind (arith, e) in ap (λ b. b || is_in r ns) same
    go false e rest = or_right (n == r) (is_in r ns) (rest e)

-- a test of one element after another, under new numbers
pub find_renumbered : (test test' : ℕ → Bool) (new : ℕ → ℕ) (value value' : ℕ → ℕ) (ns : List ℕ)
    → AllByRecursion (λ r. (test' (new r) ≡ test r) × (value' (new r) ≡ value r)) ns
    → option_map value' (find test' (map new ns)) ≡ option_map value (find test ns)
find_renumbered test test' new value value' [] all = refl
find_renumbered test test' new value value' (n ∷ ns) all =
    rw all.0.0 (go (test n) (find_renumbered test test' new value value' ns all.1))
  where
    go : (b : Bool) → option_map value' (find test' (map new ns)) ≡ option_map value (find test ns)
        → option_map value' (cond b (Some (new n)) (find test' (map new ns))) ≡ option_map value (cond b (Some n) (find test ns))
    go true rest = ap Some all.0.1
    go false rest = rest
