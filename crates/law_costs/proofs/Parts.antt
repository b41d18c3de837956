-- Sums over a list without its elements that pass a test, and what is found first.
use Rattle.std.proofs.Common.{ℕ, ◌≡◌, ◌≤◌, ◌+◌, Bool, true, false, cond, not, ◌||◌, nat_le, List, [], ◌∷◌, ◌++◌, refl, sym, ◌∙◌, ap, arith}
use Rattle.std.specs.Prelude.{Option, Some, None}
use Rattle.std.specs.List.{AllByRecursion, filter, find, list_any, sum_by}
use Rattle.std.proofs.lemmas.List.Sums.{sum_by-cons}
use Rattle.osek_base.specs.Lists.{foremost}
use Rattle.osek_base.proofs.ForemostLemmas.{best, better, foremost-best}
use Rattle.osek_base.specs.State.{Job, JobId, jobs_but, same_id, with_job}
use Rattle.law_runs.proofs.Lists.{Pairs, clash, none_some}
use Rattle.law_windows.proofs.Before.{or_true}

-- where nothing is found, nothing passes
pub none_found : {X : Type 0} (t : X → Bool) (xs : List X) → find t xs ≡ None
    → AllByRecursion (λ x. t x ≡ false) xs
none_found t [] is = tt
none_found t (x ∷ xs) is = go (t x) refl is (none_found t xs)
  where
    go : (b : Bool) → t x ≡ b → cond b (Some x) (find t xs) ≡ None
        → (find t xs ≡ None → AllByRecursion (λ y. t y ≡ false) xs)
        → AllByRecursion (λ y. t y ≡ false) (x ∷ xs)
    go true here is rest = absurd (none_some x (sym is))
    go false here is rest = (here, rest is)

-- ---- some of a list

pub any_weaker : {X : Type 0} (q r : X → Bool) (xs : List X) → ((x : X) → q x ≡ true → r x ≡ true)
    → list_any q xs ≡ true → list_any r xs ≡ true
any_weaker q r [] weaker some = some
any_weaker q r (x ∷ xs) weaker some = go (q x) refl some (any_weaker q r xs weaker)
  where
    go : (b : Bool) → q x ≡ b → (b || list_any q xs) ≡ true
        → (list_any q xs ≡ true → list_any r xs ≡ true) → (r x || list_any r xs) ≡ true
    go true is some rest = ap (λ b. b || list_any r xs) (weaker x is)
    go false is some rest = ap (λ b. r x || b) (rest some) ∙ or_true (r x)

module _ {X : Type 0} (test : X → Bool) (rank : X → ℕ) where
  none_best : (xs : List X) → best test rank xs ≡ None → AllByRecursion (λ x. test x ≡ false) xs
  none_best [] is = tt
  none_best (x ∷ xs) is = go (test x) (best test rank xs) refl refl is (none_best xs)
    where
      go : (b : Bool) (o : Option X) → test x ≡ b → best test rank xs ≡ o
          → better rank b x o ≡ None
          → (best test rank xs ≡ None → AllByRecursion (λ y. test y ≡ false) xs)
          → AllByRecursion (λ y. test y ≡ false) (x ∷ xs)
      go false o out are is rest = (out, rest (are ∙ is))
      go true None out are is rest = absurd (none_some x (sym is))
      go true (Some y) out are is rest = pick (nat_le (rank y) (rank x)) is
        where
          pick : (d : Bool) → cond d (Some x) (Some y) ≡ None
              → AllByRecursion (λ z. test z ≡ false) (x ∷ xs)
          pick true is = absurd (none_some x (sym is))
          pick false is = absurd (none_some y (sym is))

  -- where no foremost one is found, none passes
  pub none_foremost : (xs : List X) → foremost test rank xs ≡ None
      → AllByRecursion (λ x. test x ≡ false) xs
  none_foremost xs is = none_best xs (sym (foremost-best test rank xs) ∙ is)

-- ---- sums

module _ {X : Type 0} (f : X → ℕ) where
  -- one more at the end
  pub sum_more : (q : X → Bool) (xs : List X) (y : X)
      → sum_by f (filter q (xs ++ y ∷ [])) ≤ sum_by f (filter q xs) + f y
  sum_more q [] y = go (q y)
    where
      go : (b : Bool) → sum_by f (cond b (y ∷ []) []) ≤ sum_by f [] + f y
      go true = let one = sum_by-cons f y [] in omega (arith, one)
      go false = omega arith
  sum_more q (x ∷ xs) y = go (q x) (sum_more q xs y)
    where
      go : (b : Bool) → sum_by f (filter q (xs ++ y ∷ [])) ≤ sum_by f (filter q xs) + f y
          → sum_by f (cond b (x ∷ filter q (xs ++ y ∷ [])) (filter q (xs ++ y ∷ [])))
          ≤ sum_by f (cond b (x ∷ filter q xs) (filter q xs)) + f y
      go true rest =
          let one = sum_by-cons f x (filter q (xs ++ y ∷ [])) in
          let other = sum_by-cons f x (filter q xs) in
          omega (arith, one, other, rest)
      go false rest = rest

  -- fewer of them
  pub sum_fewer : (q r : X → Bool) (xs : List X)
      → sum_by f (filter q (filter r xs)) ≤ sum_by f (filter q xs)
  sum_fewer q r [] = omega arith
  sum_fewer q r (x ∷ xs) = go (r x) (sum_fewer q r xs)
    where
      kept : (b : Bool) → sum_by f (filter q (filter r xs)) ≤ sum_by f (filter q xs)
          → sum_by f (cond b (x ∷ filter q (filter r xs)) (filter q (filter r xs)))
          ≤ sum_by f (cond b (x ∷ filter q xs) (filter q xs))
      kept true rest =
          let one = sum_by-cons f x (filter q (filter r xs)) in
          let other = sum_by-cons f x (filter q xs) in
          omega (arith, one, other, rest)
      kept false rest = rest

      out : (b : Bool) → sum_by f (filter q (filter r xs)) ≤ sum_by f (filter q xs)
          → sum_by f (filter q (filter r xs)) ≤ sum_by f (cond b (x ∷ filter q xs) (filter q xs))
      out true rest =
          let other = sum_by-cons f x (filter q xs) in
          omega (arith, other, rest)
      out false rest = rest

      go : (b : Bool) → sum_by f (filter q (filter r xs)) ≤ sum_by f (filter q xs)
          → sum_by f (filter q (cond b (x ∷ filter r xs) (filter r xs)))
          ≤ sum_by f (cond (q x) (x ∷ filter q xs) (filter q xs))
      go true rest = kept (q x) rest
      go false rest = out (q x) rest

-- ---- one apart

-- of what is found
abbrev pub of_found : {X : Type 0} → (X → ℕ) → Option X → ℕ
of_found f None = 0
of_found f (Some x) = f x

module _ {X : Type 0} (f g : X → ℕ) (t : X → Bool) where
  none_out : (xs : List X) → AllByRecursion (λ x. t x ≡ false → f x ≡ g x) xs
      → AllByRecursion (λ x. t x ≡ false) xs
      → sum_by f xs ≡ sum_by g (filter (λ x. not (t x)) xs)
  none_out [] same none = refl
  none_out (x ∷ xs) same none = go (t x) none.0 (same.0 none.0) (none_out xs same.1 none.1)
    where
      go : (b : Bool) → b ≡ false → f x ≡ g x
          → sum_by f xs ≡ sum_by g (filter (λ y. not (t y)) xs)
          → sum_by f (x ∷ xs)
          ≡ sum_by g (cond (not b) (x ∷ filter (λ y. not (t y)) xs) (filter (λ y. not (t y)) xs))
      go true is here rest = clash is
      go false is here rest =
          let one = sum_by-cons f x xs in
          let other = sum_by-cons g x (filter (λ y. not (t y)) xs) in
          omega (arith, one, other, here, rest)

  -- the sum is what is found, and the others, by another count of them that is the same
  pub sum_apart : (xs : List X) → Pairs (λ x y. t x ≡ true → t y ≡ false) xs
      → AllByRecursion (λ x. t x ≡ false → f x ≡ g x) xs
      → sum_by f xs ≡ of_found f (find t xs) + sum_by g (filter (λ x. not (t x)) xs)
  sum_apart [] apart same = refl
  sum_apart (x ∷ xs) apart same = go (t x) refl (sum_apart xs apart.1 same.1)
    where
      all_out : (ys : List X) → t x ≡ true → AllByRecursion (λ y. t x ≡ true → t y ≡ false) ys
          → AllByRecursion (λ y. t y ≡ false) ys
      all_out [] is all = tt
      all_out (y ∷ ys) is all = (all.0 is, all_out ys is all.1)

      go : (b : Bool) → t x ≡ b
          → sum_by f xs ≡ of_found f (find t xs) + sum_by g (filter (λ y. not (t y)) xs)
          → sum_by f (x ∷ xs)
          ≡ of_found f (cond b (Some x) (find t xs))
          + sum_by g (cond (not b) (x ∷ filter (λ y. not (t y)) xs) (filter (λ y. not (t y)) xs))
      go true is rest =
          let one = sum_by-cons f x xs in
          let others = none_out xs same.1 (all_out xs is apart.0) in
          omega (arith, one, others)
      go false is rest =
          let one = sum_by-cons f x xs in
          let other = sum_by-cons g x (filter (λ y. not (t y)) xs) in
          let here = same.0 is in
          omega (arith, one, other, here, rest)

pub sum_none : {X : Type 0} (g : X → ℕ) (t : X → Bool) (xs : List X)
    → AllByRecursion (λ x. t x ≡ false → g x ≡ 0) xs
    → sum_by g (filter (λ x. not (t x)) xs) ≡ 0
sum_none g t [] all = refl
sum_none g t (x ∷ xs) all = go (t x) refl (sum_none g t xs all.1)
  where
    go : (b : Bool) → t x ≡ b → sum_by g (filter (λ y. not (t y)) xs) ≡ 0
        → sum_by g (cond (not b) (x ∷ filter (λ y. not (t y)) xs) (filter (λ y. not (t y)) xs)) ≡ 0
    go true is rest = rest
    go false is rest =
        let one = sum_by-cons g x (filter (λ y. not (t y)) xs) in
        let here = all.0 is in
        omega (arith, one, here, rest)

-- ---- the jobs but one

pub but_changed : (n : JobId) (change : Job → Job) → ((j : Job) → (change j).id ≡ j.id)
    → (jobs : List Job) → jobs_but n (with_job n change jobs) ≡ jobs_but n jobs
but_changed n change ids [] = refl
but_changed n change ids (j ∷ jobs) = go (same_id j.id n) refl (but_changed n change ids jobs)
  where
    go : (b : Bool) → same_id j.id n ≡ b
        → jobs_but n (with_job n change jobs) ≡ jobs_but n jobs
        → cond (not (same_id (cond b (change j) j).id n))
        (cond b (change j) j ∷ jobs_but n (with_job n change jobs))
        (jobs_but n (with_job n change jobs))
        ≡ cond (not b) (j ∷ jobs_but n jobs) (jobs_but n jobs)
    go true is rest =
        ap (λ b. cond (not b) (change j ∷ jobs_but n (with_job n change jobs))
        (jobs_but n (with_job n change jobs)))
        (ap (λ m. same_id m n) (ids j) ∙ is)
        ∙ rest
    go false is rest =
        ap (λ b. cond (not b) (j ∷ jobs_but n (with_job n change jobs))
        (jobs_but n (with_job n change jobs))) is
        ∙ ap (λ ks. j ∷ ks) rest

pub any_changed : (q : Job → Bool) (n : JobId) (change : Job → Job)
    → ((j : Job) → q (change j) ≡ q j) → (jobs : List Job)
    → list_any q (with_job n change jobs) ≡ list_any q jobs
any_changed q n change same [] = refl
any_changed q n change same (j ∷ jobs) = go (same_id j.id n) (any_changed q n change same jobs)
  where
    go : (b : Bool) → list_any q (with_job n change jobs) ≡ list_any q jobs
        → (q (cond b (change j) j) || list_any q (with_job n change jobs))
        ≡ (q j || list_any q jobs)
    go true rest =
        ap (λ b. b || list_any q (with_job n change jobs)) (same j) ∙ ap (λ b. q j || b) rest
    go false rest = ap (λ b. q j || b) rest
