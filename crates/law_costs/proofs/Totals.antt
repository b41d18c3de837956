-- Sums over what passes a test, and totals: the sum over what counts, or something in its place.
use Rattle.std.proofs.Common.{ℕ, ◌≡◌, ◌≤◌, ◌+◌, ◌⊎◌, inl, inr, Bool, true, false, cond, ◌||◌, List, [], ◌∷◌, ◌++◌, map, refl, sym, ◌∙◌, ap, arith}
use Rattle.std.specs.Prelude.{Some}
use Rattle.std.specs.List.{AllByRecursion, filter, find, list_any, sum_by}
use Rattle.std.proofs.lemmas.List.Folds.{list_any-append}
use Rattle.std.proofs.lemmas.List.Sums.{sum_by-cons, sum_by_push}
use Rattle.law_runs.proofs.Lists.{Pairs, all_weaker, clash, none_some, some_inside}
use Rattle.law_windows.proofs.Before.{or_true}

-- ---- what passes

module _ {X : Type 0} (f : X → ℕ) where
  -- all that passes one test passes another
  pub sum_within : (a b : X → Bool) (xs : List X)
      → AllByRecursion (λ x. a x ≡ true → b x ≡ true) xs
      → sum_by f (filter a xs) ≤ sum_by f (filter b xs)
  sum_within a b [] all = omega arith
  sum_within a b (x ∷ xs) all = go (a x) (b x) all.0 (sum_within a b xs all.1)
    where
      go : (m n : Bool) → (m ≡ true → n ≡ true) → sum_by f (filter a xs) ≤ sum_by f (filter b xs)
          → sum_by f (cond m (x ∷ filter a xs) (filter a xs))
          ≤ sum_by f (cond n (x ∷ filter b xs) (filter b xs))
      go true true both rest =
          let one = sum_by-cons f x (filter a xs) in
          let other = sum_by-cons f x (filter b xs) in
          omega (arith, one, other, rest)
      go true false both rest = clash (sym (both refl))
      go false true both rest =
          let other = sum_by-cons f x (filter b xs) in
          omega (arith, other, rest)
      go false false both rest = rest

  -- all that passes one test passes one of two others
  pub sum_either : (a b c : X → Bool) (xs : List X)
      → ((x : X) → a x ≡ true → (b x ≡ true) ⊎ (c x ≡ true))
      → sum_by f (filter a xs) ≤ sum_by f (filter b xs) + sum_by f (filter c xs)
  sum_either a b c [] either = omega arith
  sum_either a b c (x ∷ xs) either =
      go (a x) (b x) (c x) (either x) (sum_either a b c xs either)
    where
      no_less : (o : Bool)
          → sum_by f (filter c xs) ≤ sum_by f (cond o (x ∷ filter c xs) (filter c xs))
      no_less true = let is = sum_by-cons f x (filter c xs) in omega (arith, is)
      no_less false = omega arith

      none_less : (n : Bool)
          → sum_by f (filter b xs) ≤ sum_by f (cond n (x ∷ filter b xs) (filter b xs))
      none_less true = let is = sum_by-cons f x (filter b xs) in omega (arith, is)
      none_less false = omega arith

      go : (m n o : Bool) → (m ≡ true → (n ≡ true) ⊎ (o ≡ true))
          → sum_by f (filter a xs) ≤ sum_by f (filter b xs) + sum_by f (filter c xs)
          → sum_by f (cond m (x ∷ filter a xs) (filter a xs))
          ≤ sum_by f (cond n (x ∷ filter b xs) (filter b xs))
          + sum_by f (cond o (x ∷ filter c xs) (filter c xs))
      go true true o one rest =
          let first = sum_by-cons f x (filter a xs) in
          let second = sum_by-cons f x (filter b xs) in
          omega (arith, first, second, rest, no_less o)
      go true false true one rest =
          let first = sum_by-cons f x (filter a xs) in
          let third = sum_by-cons f x (filter c xs) in
          omega (arith, first, third, rest)
      go false n o one rest = omega (arith, rest, no_less o, none_less n)
      go true false false one rest =
          elim (one refl) [ inl n ↦ clash (sym n) | inr o ↦ clash (sym o) ]

  -- what is found no longer passes, and no more than before does
  pub sum_taken : (a b t : X → Bool) (xs : List X) (i : X) → find t xs ≡ Some i → a i ≡ true
      → b i ≡ false → ((x : X) → b x ≡ true → a x ≡ true)
      → sum_by f (filter b xs) + f i ≤ sum_by f (filter a xs)
  sum_taken a b t [] i is on off fewer = absurd (none_some i is)
  sum_taken a b t (x ∷ xs) i is on off fewer =
      go (t x) is (λ later. sum_taken a b t xs i later on off fewer)
    where
      less : sum_by f (filter b xs) ≤ sum_by f (filter a xs)
      less = sum_within b a xs (every xs)
        where
          every : (ys : List X) → AllByRecursion (λ y. b y ≡ true → a y ≡ true) ys
          every [] = tt
          every (y ∷ ys) = (fewer y, every ys)

      front : (m n : Bool) → (n ≡ true → m ≡ true)
          → sum_by f (filter b xs) + f i ≤ sum_by f (filter a xs)
          → sum_by f (cond n (x ∷ filter b xs) (filter b xs)) + f i
          ≤ sum_by f (cond m (x ∷ filter a xs) (filter a xs))
      front true true both rest =
          let one = sum_by-cons f x (filter a xs) in
          let other = sum_by-cons f x (filter b xs) in
          omega (arith, one, other, rest)
      front false true both rest = clash (sym (both refl))
      front true false both rest =
          let one = sum_by-cons f x (filter a xs) in
          omega (arith, one, rest)
      front false false both rest = rest

      here : (m n : Bool) → m ≡ true → n ≡ false → f x ≡ f i
          → sum_by f (cond n (x ∷ filter b xs) (filter b xs)) + f i
          ≤ sum_by f (cond m (x ∷ filter a xs) (filter a xs))
      here true false m n same =
          let one = sum_by-cons f x (filter a xs) in
          omega (arith, one, less, same)
      here false n m o same = clash (sym m)
      here true true m n same = clash n

      go : (c : Bool) → cond c (Some x) (find t xs) ≡ Some i
          → (find t xs ≡ Some i → sum_by f (filter b xs) + f i ≤ sum_by f (filter a xs))
          → sum_by f (filter b (x ∷ xs)) + f i ≤ sum_by f (filter a (x ∷ xs))
      go true found rest =
          let same : x ≡ i = some_inside x i found in
          here (a x) (b x) (ap a same ∙ on) (ap b same ∙ off) (ap f same)
      go false found rest = front (a x) (b x) (fewer x) (rest found)

  -- of things of which one at most passes, where each other one is nothing
  pub sum_alone : (t : X → Bool) (most : ℕ) (xs : List X)
      → Pairs (λ x y. t x ≡ true → t y ≡ false) xs
      → AllByRecursion (λ x. (t x ≡ true → f x ≤ most) × (t x ≡ false → f x ≡ 0)) xs
      → sum_by f xs ≤ most
  sum_alone t most [] apart each = omega arith
  sum_alone t most (x ∷ xs) apart each =
      go (t x) refl (sum_alone t most xs apart.1 each.1)
    where
      nothing : (ys : List X) → AllByRecursion (λ y. t y ≡ false) ys
          → AllByRecursion (λ y. (t y ≡ true → f y ≤ most) × (t y ≡ false → f y ≡ 0)) ys
          → sum_by f ys ≡ 0
      nothing [] none all = refl
      nothing (y ∷ ys) none all =
          let whole = sum_by-cons f y ys in
          let rest = nothing ys none.1 all.1 in
          let first = all.0.1 none.0 in
          omega (arith, whole, rest, first)

      go : (b : Bool) → t x ≡ b → sum_by f xs ≤ most → sum_by f (x ∷ xs) ≤ most
      go true is rest =
          let whole = sum_by-cons f x xs in
          let first = each.0.0 is in
          let others =
          nothing xs
          (all_weaker (λ y. t x ≡ true → t y ≡ false) (λ y. t y ≡ false) xs (λ y h. h is)
          apart.0)
          each.1 in
          omega (arith, whole, first, others)
      go false is rest =
          let whole = sum_by-cons f x xs in
          let first = each.0.1 is in
          omega (arith, whole, first, rest)

  pub sum_mapped : (g : X → X) (xs : List X) → sum_by f (map g xs) ≡ sum_by (λ x. f (g x)) xs
  sum_mapped g [] = refl
  sum_mapped g (x ∷ xs) =
      let one = sum_by-cons f (g x) (map g xs) in
      let other = sum_by-cons (λ y. f (g y)) x xs in
      let rest = sum_mapped g xs in
      omega (arith, one, other, rest)

pub sum_lower : {X : Type 0} (f g : X → ℕ) (xs : List X) → AllByRecursion (λ x. f x ≤ g x) xs
    → sum_by f xs ≤ sum_by g xs
sum_lower f g [] all = omega arith
sum_lower f g (x ∷ xs) all =
    let one = sum_by-cons f x xs in
    let other = sum_by-cons g x xs in
    let rest = sum_lower f g xs all.1 in
    let first = all.0 in
    omega (arith, one, other, rest, first)

-- ---- totals

module _ {X : Type 0} (q : X → Bool) (f : X → ℕ) (d : ℕ) where
  abbrev pub part : X → ℕ
  part x = cond (q x) (f x) 0

  abbrev pub total : List X → ℕ
  total xs = cond (list_any q xs) (sum_by part xs) d

  pub none_sum : (xs : List X) → list_any q xs ≡ false → sum_by part xs ≡ 0
  none_sum [] none = refl
  none_sum (x ∷ xs) none = go (q x) refl none (none_sum xs)
    where
      go : (b : Bool) → q x ≡ b → (b || list_any q xs) ≡ false
          → (list_any q xs ≡ false → sum_by part xs ≡ 0) → sum_by part (x ∷ xs) ≡ 0
      go true is none rest = clash none
      go false is none rest =
          let whole = sum_by-cons part x xs in
          let first : part x ≡ 0 = ap (λ b. cond b (f x) 0) is in
          let others = rest none in
          omega (arith, whole, first, others)

  -- one more at the end
  pub total_more : (xs : List X) (x : X) → total (xs ++ x ∷ []) ≤ total xs + part x
  total_more xs x =
      go (list_any q xs) refl (q x) refl (list_any q (xs ++ x ∷ [])) (list_any-append q xs (x ∷ []))
    where
      sum : sum_by part (xs ++ x ∷ []) ≡ sum_by part xs + part x
      sum = sum_by_push part xs x

      go : (a : Bool) → list_any q xs ≡ a → (b : Bool) → q x ≡ b → (c : Bool)
          → c ≡ (list_any q xs || (q x || false))
          → cond c (sum_by part (xs ++ x ∷ [])) d ≤ cond a (sum_by part xs) d + part x
      go true is b here true both = omega (arith, sum)
      go true is b here false both =
          clash (sym (ap (λ e. e || (q x || false)) is) ∙ sym both)
      go false is true here true both =
          let none = none_sum xs is in
          omega (arith, sum, none)
      go false is false here true both =
          clash (both ∙ ap (λ e. e || (q x || false)) is ∙ ap (λ e. e || false) here)
      go false is b here false both = omega arith

  -- what is left out doesn't count
  pub total_kept : (t : X → Bool) (xs : List X)
      → AllByRecursion (λ x. t x ≡ false → q x ≡ false) xs → total (filter t xs) ≡ total xs
  total_kept t xs all =
      ap (λ b. cond b (sum_by part (filter t xs)) d) (any xs all)
      ∙ ap (λ n. cond (list_any q xs) n d) (sums xs all)
    where
      any : (ys : List X) → AllByRecursion (λ y. t y ≡ false → q y ≡ false) ys
          → list_any q (filter t ys) ≡ list_any q ys
      any [] each = refl
      any (y ∷ ys) each = go (t y) refl (any ys each.1)
        where
          go : (b : Bool) → t y ≡ b → list_any q (filter t ys) ≡ list_any q ys
              → list_any q (cond b (y ∷ filter t ys) (filter t ys)) ≡ (q y || list_any q ys)
          go true is rest = ap (λ b. q y || b) rest
          go false is rest = rest ∙ sym (ap (λ b. b || list_any q ys) (each.0 is))

      sums : (ys : List X) → AllByRecursion (λ y. t y ≡ false → q y ≡ false) ys
          → sum_by part (filter t ys) ≡ sum_by part ys
      sums [] each = refl
      sums (y ∷ ys) each = go (t y) refl (sums ys each.1)
        where
          go : (b : Bool) → t y ≡ b → sum_by part (filter t ys) ≡ sum_by part ys
              → sum_by part (cond b (y ∷ filter t ys) (filter t ys)) ≡ sum_by part (y ∷ ys)
          go true is rest =
              let one = sum_by-cons part y (filter t ys) in
              let other = sum_by-cons part y ys in
              omega (arith, one, other, rest)
          go false is rest =
              let other = sum_by-cons part y ys in
              let none : part y ≡ 0 = ap (λ b. cond b (f y) 0) (each.0 is) in
              omega (arith, other, none, rest)

  -- each becomes no more, where some counts before and behind
  pub total_mapped : (g : X → X) (xs : List X) → list_any q xs ≡ true
      → list_any q (map g xs) ≡ true → AllByRecursion (λ x. part (g x) ≤ part x) xs
      → total (map g xs) ≤ total xs
  total_mapped g xs before behind less =
      let is = sum_mapped part g xs in
      let low = sum_lower (λ x. part (g x)) part xs less in
      let one : total (map g xs) ≡ sum_by part (map g xs) =
      ap (λ b. cond b (sum_by part (map g xs)) d) behind in
      let other : total xs ≡ sum_by part xs = ap (λ b. cond b (sum_by part xs) d) before in
      omega (arith, is, low, one, other)

  -- where none counts, and behind no more than may
  pub total_begun : (xs ys : List X) → list_any q xs ≡ false → sum_by part ys ≤ d
      → total ys ≤ total xs
  total_begun xs ys none low = go (list_any q ys)
    where
      other : total xs ≡ d
      other = ap (λ b. cond b (sum_by part xs) d) none

      go : (b : Bool) → cond b (sum_by part ys) d ≤ total xs
      go true = omega (arith, other, low)
      go false = omega (arith, other)

pub found_counts : {X : Type 0} (q t : X → Bool) (xs : List X) (x : X) → find t xs ≡ Some x
    → q x ≡ true → list_any q xs ≡ true
found_counts q t [] x is on = absurd (none_some x is)
found_counts q t (y ∷ xs) x is on = go (t y) is (λ later. found_counts q t xs x later on)
  where
    go : (b : Bool) → cond b (Some y) (find t xs) ≡ Some x
        → (find t xs ≡ Some x → list_any q xs ≡ true) → (q y || list_any q xs) ≡ true
    go true found rest =
        ap (λ b. b || list_any q xs) (ap q (some_inside y x found) ∙ on)
    go false found rest = ap (λ b. q y || b) (rest found) ∙ or_true (q y)

pub found_mapped : {X : Type 0} (q t : X → Bool) (g : X → X) (xs : List X) (x : X)
    → find t xs ≡ Some x → q (g x) ≡ true → list_any q (map g xs) ≡ true
found_mapped q t g [] x is on = absurd (none_some x is)
found_mapped q t g (y ∷ xs) x is on = go (t y) is (λ later. found_mapped q t g xs x later on)
  where
    go : (b : Bool) → cond b (Some y) (find t xs) ≡ Some x
        → (find t xs ≡ Some x → list_any q (map g xs) ≡ true)
        → (q (g y) || list_any q (map g xs)) ≡ true
    go true found rest =
        ap (λ b. b || list_any q (map g xs)) (ap (λ z. q (g z)) (some_inside y x found) ∙ on)
    go false found rest = ap (λ b. q (g y) || b) (rest found) ∙ or_true (q (g y))

pub none_any : {X : Type 0} (q : X → Bool) (xs : List X) → AllByRecursion (λ x. q x ≡ false) xs
    → list_any q xs ≡ false
none_any q [] all = refl
none_any q (x ∷ xs) all = ap (λ b. b || list_any q xs) all.0 ∙ none_any q xs all.1
