-- The order of tasks has each declared place just once: it is as long as the list of tasks, no place stands twice, and none lacks.
use Rattle.std.proofs.Common.{◌≡◌, ◌⊎◌, ℕ, zero, suc, ◌+◌, ◌<◌, ◌≤◌, Bool, true, false, cond, not, ◌||◌, eqb, ltb, List, [], ◌∷◌, ◌++◌, length, get_or, refl, sym, ap, ◌∙◌, arith, inl, inr, length-append}
use Rattle.std.specs.List.{filter}
use Rattle.std.proofs.lemmas.Bool.{cases_Bool, cases_order, cases_eq, and_parts, and_from, or_cases, or_left, or_right, not_from_false, true≢false, eqb-true, lt-ltb, le-ltb, eq-eqb, ne_eqb}
use Rattle.osek_base.specs.declared.limits.TheConstants.{MAX_TASK_PRIORITY}
use Rattle.osek_base.specs.Lists.{below, is_in}
use Rattle.osek_base.specs.Classes.{are_distinct}
use Rattle.osek_base.specs.Numbering.{places_of, order_below, task_order}

-- ---- membership

in_left : (n : ℕ) (xs ys : List ℕ) → is_in n xs ≡ true → is_in n (xs ++ ys) ≡ true
in_left n [] ys h = absurd cc
in_left n (x ∷ xs) ys h =
    elim (or_cases (eqb x n) (is_in n xs) h) [
      | inl here ↦ or_left (eqb x n) (is_in n (xs ++ ys)) here
      | inr there ↦ or_right (eqb x n) (is_in n (xs ++ ys)) (in_left n xs ys there)
    ]

in_right : (n : ℕ) (xs ys : List ℕ) → is_in n ys ≡ true → is_in n (xs ++ ys) ≡ true
in_right n [] ys h = h
in_right n (x ∷ xs) ys h = or_right (eqb x n) (is_in n (xs ++ ys)) (in_right n xs ys h)

in_either : (n : ℕ) (xs ys : List ℕ) → is_in n (xs ++ ys) ≡ true → (is_in n xs ≡ true) ⊎ (is_in n ys ≡ true)
in_either n [] ys h = inr h
in_either n (x ∷ xs) ys h =
    elim (or_cases (eqb x n) (is_in n (xs ++ ys)) h) [
      | inl here ↦ inl (or_left (eqb x n) (is_in n xs) here)
      | inr there ↦ elim (in_either n xs ys there) [
        | inl left ↦ inl (or_right (eqb x n) (is_in n xs) left)
        | inr right ↦ inr right
      ]
    ]

kept_if : (b : Bool) (x n : ℕ) (xs : List ℕ) → (x ≡ n → b ≡ true) → (eqb x n || is_in n xs) ≡ true → is_in n (cond b (x ∷ xs) xs) ≡ true
kept_if true x n xs h is = is
kept_if false x n xs h is =
    elim (or_cases (eqb x n) (is_in n xs) is) [
      | inl here ↦ absurd (true≢false (sym (h (eqb-true x n here))))
      | inr there ↦ there
    ]

-- what passes a test is kept
in_filter : (test : ℕ → Bool) (n : ℕ) (xs : List ℕ) → test n ≡ true → is_in n xs ≡ true → is_in n (filter test xs) ≡ true
in_filter test n [] t h = h
in_filter test n (x ∷ xs) t h =
    kept_if (test x) x n (filter test xs) (λ e. ap test e ∙ t) (elim (or_cases (eqb x n) (is_in n xs) h) [
      | inl here ↦ or_left (eqb x n) (is_in n (filter test xs)) here
      | inr there ↦ or_right (eqb x n) (is_in n (filter test xs)) (in_filter test n xs t there)
    ])

kept_was : (b : Bool) (x n : ℕ) (xs : List ℕ) → is_in n (cond b (x ∷ xs) xs) ≡ true → (b ≡ true) × (x ≡ n) ⊎ (is_in n xs ≡ true)
kept_was true x n xs h =
    elim (or_cases (eqb x n) (is_in n xs) h) [ inl here ↦ inl (refl, eqb-true x n here) | inr there ↦ inr there ]
kept_was false x n xs h = inr h

-- what is kept was there, and passes the test
was_in : (test : ℕ → Bool) (n : ℕ) (xs : List ℕ) → is_in n (filter test xs) ≡ true → (test n ≡ true) × (is_in n xs ≡ true)
was_in test n [] h = absurd cc
was_in test n (x ∷ xs) h =
    elim (kept_was (test x) x n (filter test xs) h) [
      | inl here ↦ (ap test (sym here.1) ∙ here.0, or_left (eqb x n) (is_in n xs) (eq-eqb x n here.1))
      | inr there ↦
          (let rest = was_in test n xs there in
          (rest.0, or_right (eqb x n) (is_in n xs) rest.1))
    ]

in_below : (n m : ℕ) → n < m → is_in n (below m) ≡ true
in_below n zero lt = absurd (omega arith)
in_below n (suc m) lt =
    elim (cases_eq m n) [
      | inl e ↦ in_right n (below m) (m ∷ []) (or_left (eqb m n) false (eq-eqb m n e))
      | inr other ↦ in_left n (below m) (m ∷ []) (in_below n m (omega (arith, other)))
    ]

below_bound : (n m : ℕ) → is_in n (below m) ≡ true → n < m
below_bound n zero h = absurd cc
below_bound n (suc m) h =
    elim (in_either n (below m) (m ∷ []) h) [
      | inl left ↦ omega (arith, below_bound n m left)
      | inr right ↦ elim (or_cases (eqb m n) false right) [ inl here ↦ omega (arith, eqb-true m n here) | inr there ↦ absurd cc ]
    ]

-- ---- no number twice

-- an element of a list without repetition isn't in the rest
not_in : (x : ℕ) (xs : List ℕ) → (is_in x xs ≡ true → ⊥) → not (is_in x xs) ≡ true
not_in x xs h = elim (cases_Bool (is_in x xs)) [ inl t ↦ absurd (h t) | inr f ↦ not_from_false (is_in x xs) f ]

is_not_in : (x : ℕ) (xs : List ℕ) → not (is_in x xs) ≡ true → is_in x xs ≡ true → ⊥
is_not_in x xs h t = true≢false (sym h ∙ ap not t)

distinct_append : (xs ys : List ℕ) → are_distinct xs ≡ true → are_distinct ys ≡ true → ((n : ℕ) → is_in n xs ≡ true → is_in n ys ≡ true → ⊥) → are_distinct (xs ++ ys) ≡ true
distinct_append [] ys a b apart = b
distinct_append (x ∷ xs) ys a b apart =
    let parts = and_parts (not (is_in x xs)) (are_distinct xs) a in
    and_from _ _
    (not_in x (xs ++ ys) (λ h. elim (in_either x xs ys h) [
      | inl left ↦ is_not_in x xs parts.0 left
      | inr right ↦ apart x (or_left (eqb x x) (is_in x xs) (eq-eqb x x refl)) right
    ]))
    (distinct_append xs ys parts.1 b (λ n l r. apart n (or_right (eqb x n) (is_in n xs) l) r))

distinct_if : (b : Bool) (x : ℕ) (xs : List ℕ) → (is_in x xs ≡ true → ⊥) → are_distinct xs ≡ true → are_distinct (cond b (x ∷ xs) xs) ≡ true
distinct_if true x xs h d = and_from _ _ (not_in x xs h) d
distinct_if false x xs h d = d

distinct_filter : (test : ℕ → Bool) (xs : List ℕ) → are_distinct xs ≡ true → are_distinct (filter test xs) ≡ true
distinct_filter test [] h = h
distinct_filter test (x ∷ xs) h =
    let parts = and_parts (not (is_in x xs)) (are_distinct xs) h in
    distinct_if (test x) x (filter test xs) (λ t. is_not_in x xs parts.0 (was_in test x xs t).1) (distinct_filter test xs parts.1)

distinct_below : (m : ℕ) → are_distinct (below m) ≡ true
distinct_below zero = refl
distinct_below (suc m) =
    distinct_append (below m) (m ∷ []) (distinct_below m) refl (λ n l r. elim (or_cases (eqb m n) false r) [
      | inl here ↦ (let lt = below_bound n m l in let e = eqb-true m n here in absurd (omega arith))
      | inr there ↦ absurd cc
    ])

-- ---- the order

abbrev is_of : List ℕ → ℕ → ℕ → Bool
is_of ps p i = eqb (get_or ps i 0) p

-- what stands in the order below p has a priority below p
order_priority : (ps : List ℕ) (p n : ℕ) → is_in n (order_below ps p) ≡ true → get_or ps n 0 < p
order_priority ps zero n h = absurd cc
order_priority ps (suc p) n h =
    elim (in_either n (places_of ps p) (order_below ps p) h) [
      | inl left ↦ (let e = eqb-true (get_or ps n 0) p (was_in (is_of ps p) n (below (length ps)) left).0 in omega arith)
      | inr right ↦ omega (arith, order_priority ps p n right)
    ]

order_distinct_below : (ps : List ℕ) (p : ℕ) → are_distinct (order_below ps p) ≡ true
order_distinct_below ps zero = refl
order_distinct_below ps (suc p) =
    distinct_append (places_of ps p) (order_below ps p)
    (distinct_filter (is_of ps p) (below (length ps)) (distinct_below (length ps)))
    (order_distinct_below ps p)
    (λ n l r.
    let e = eqb-true (get_or ps n 0) p (was_in (is_of ps p) n (below (length ps)) l).0 in
    let lt = order_priority ps p n r in
    absurd (omega arith))

-- a place whose priority is below p stands in the order below p
order_has_below : (ps : List ℕ) (p n : ℕ) → n < length ps → get_or ps n 0 < p → is_in n (order_below ps p) ≡ true
order_has_below ps zero n lt small = absurd (omega arith)
order_has_below ps (suc p) n lt small =
    elim (cases_eq (get_or ps n 0) p) [
      | inl e ↦ in_left n (places_of ps p) (order_below ps p) (in_filter (is_of ps p) n (below (length ps)) (eq-eqb (get_or ps n 0) p e) (in_below n (length ps) lt))
      | inr other ↦ in_right n (places_of ps p) (order_below ps p) (order_has_below ps p n lt (omega (arith, other)))
    ]

-- no place stands twice
pub order_distinct : (ps : List ℕ) → are_distinct (task_order ps) ≡ true
unfolding task_order
order_distinct ps = order_distinct_below ps (MAX_TASK_PRIORITY + 1)

-- a place with a priority of a task stands in the order
pub order_has : (ps : List ℕ) (n : ℕ) → n < length ps → get_or ps n 0 ≤ MAX_TASK_PRIORITY → is_in n (task_order ps) ≡ true
unfolding task_order
order_has ps n lt small = order_has_below ps (MAX_TASK_PRIORITY + 1) n lt (omega arith)

-- ---- how long the order is

counted : (m p x : ℕ) (xs ys zs : List ℕ) → length xs + length ys ≡ length zs
    → length (cond (eqb m p) (x ∷ xs) xs) + length (cond (ltb m p) (x ∷ ys) ys) ≡ length (cond (ltb m (suc p)) (x ∷ zs) zs)
counted m p x xs ys zs h =
    elim (cases_order m p) [
      | inl e ↦ rw (eq-eqb m p e, le-ltb m p (omega arith), lt-ltb m (suc p) (omega arith)) (omega arith)
      | inr other ↦ elim other [
        | inl lt ↦ rw (ne_eqb m p (λ e. omega arith), lt-ltb m p lt, lt-ltb m (suc p) (omega arith)) (omega arith)
        | inr gt ↦ rw (ne_eqb m p (λ e. omega arith), le-ltb m p (omega arith), le-ltb m (suc p) (omega arith)) (omega arith)
      ]
    ]

abbrev lower : List ℕ → ℕ → List ℕ → List ℕ
lower ps p xs = filter (λ i. ltb (get_or ps i 0) p) xs

of_priority : (ps : List ℕ) (p : ℕ) (xs : List ℕ) → length (filter (λ i. eqb (get_or ps i 0) p) xs) + length (lower ps p xs) ≡ length (lower ps (suc p) xs)
of_priority ps p [] = omega arith
of_priority ps p (x ∷ xs) =
    counted (get_or ps x 0) p x (filter (λ i. eqb (get_or ps i 0) p) xs) (lower ps p xs) (lower ps (suc p) xs) (of_priority ps p xs)

none_lower : (ps xs : List ℕ) → length (lower ps 0 xs) ≡ 0
none_lower ps [] = refl
none_lower ps (x ∷ xs) = rw (le-ltb (get_or ps x 0) 0 (omega arith)) (none_lower ps xs)

order_lower : (ps : List ℕ) (p : ℕ) → length (order_below ps p) ≡ length (lower ps p (below (length ps)))
order_lower ps zero = sym (none_lower ps (below (length ps)))
order_lower ps (suc p) =
    omega (arith, length-append (places_of ps p) (order_below ps p), order_lower ps p, of_priority ps p (below (length ps)))

kept_short : (b : Bool) (x : ℕ) (ys : List ℕ) (n : ℕ) → length ys ≤ n → length (cond b (x ∷ ys) ys) ≤ suc n
kept_short true x ys n h = omega (arith, h)
kept_short false x ys n h = omega (arith, h)

filter_short : (test : ℕ → Bool) (xs : List ℕ) → length (filter test xs) ≤ length xs
filter_short test [] = omega arith
filter_short test (x ∷ xs) = kept_short (test x) x (filter test xs) (length xs) (filter_short test xs)

below_length : (n : ℕ) → length (below n) ≡ n
below_length zero = refl
below_length (suc n) = omega (arith, length-append (below n) (n ∷ []), below_length n)

-- at most as long as the list of priorities
pub order_short : (ps : List ℕ) → length (task_order ps) ≤ length ps
unfolding task_order
order_short ps =
    omega (arith, order_lower ps (MAX_TASK_PRIORITY + 1), filter_short (λ i. ltb (get_or ps i 0) (MAX_TASK_PRIORITY + 1)) (below (length ps)), below_length (length ps))
