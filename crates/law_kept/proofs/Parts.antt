-- Filters, maps and the oldest job of a task.
use Rattle.std.proofs.Common.{◌≡◌, ℕ, Bool, true, false, cond, not, ◌&&◌, ◌||◌, List, [], ◌∷◌, map, refl, sym, ◌∙◌, ap, arith}
use Rattle.std.specs.Prelude.{Some, ◌==◌}
use Rattle.std.specs.List.{filter, find, list_any, AllByRecursion}
use Rattle.osek_base.specs.System.{System}
use Rattle.osek_base.specs.State.{Job, JobId, same_id, jobs_of}
use Rattle.law_runs.proofs.Lists.{Pairs, clash, all_weaker}
use Rattle.law_runs.proofs.Foremost.{same_ids}
use Rattle.law_runs.proofs.Single.{IsSoundPair}

-- ---- filters

module _ {X : Type 0} where
  -- a filter of a map that keeps the test, and what passes
  pub filter_unmoved : (p : X → Bool) (g : X → X) (xs : List X)
      → AllByRecursion (λ x. (p (g x) ≡ p x) × (p x ≡ true → g x ≡ x)) xs → filter p (map g xs) ≡ filter p xs
  filter_unmoved p g [] all = refl
  filter_unmoved p g (x ∷ xs) all = go (p x) refl (filter_unmoved p g xs all.1)
    where
      go : (b : Bool) → p x ≡ b → filter p (map g xs) ≡ filter p xs
          → cond (p (g x)) (g x ∷ filter p (map g xs)) (filter p (map g xs)) ≡ cond b (x ∷ filter p xs) (filter p xs)
      go true e ih = rw (all.0.0, e, all.0.1 e) (ap (λ ys. x ∷ ys) ih)
      go false e ih = rw (all.0.0, e) ih

  -- a filter passes through a map that keeps the test
  pub filter_moved : (p : X → Bool) (g : X → X) → ((x : X) → p (g x) ≡ p x) → (xs : List X)
      → filter p (map g xs) ≡ map g (filter p xs)
  filter_moved p g keep [] = refl
  filter_moved p g keep (x ∷ xs) = go (p x) refl (filter_moved p g keep xs)
    where
      go : (b : Bool) → p x ≡ b → filter p (map g xs) ≡ map g (filter p xs)
          → cond (p (g x)) (g x ∷ filter p (map g xs)) (filter p (map g xs))
          ≡ map g (cond b (x ∷ filter p xs) (filter p xs))
      go true e ih = rw (keep x, e) (ap (λ ys. g x ∷ ys) ih)
      go false e ih = rw (keep x, e) ih

  -- two tests that agree
  pub filter_same : (p q : X → Bool) (xs : List X) → AllByRecursion (λ x. p x ≡ q x) xs → filter p xs ≡ filter q xs
  filter_same p q [] all = refl
  filter_same p q (x ∷ xs) all = go (q x) refl (filter_same p q xs all.1)
    where
      go : (b : Bool) → q x ≡ b → filter p xs ≡ filter q xs
          → cond (p x) (x ∷ filter p xs) (filter p xs) ≡ cond b (x ∷ filter q xs) (filter q xs)
      go true e ih = rw (all.0, e) (ap (λ ys. x ∷ ys) ih)
      go false e ih = rw (all.0, e) ih

  -- one test after another
  pub filter_twice : (p q : X → Bool) (xs : List X) → filter p (filter q xs) ≡ filter (λ x. q x && p x) xs
  filter_twice p q [] = refl
  filter_twice p q (x ∷ xs) = go (q x) (p x) refl (filter_twice p q xs)
    where
      go : (a b : Bool) → p x ≡ b → filter p (filter q xs) ≡ filter (λ y. q y && p y) xs
          → filter p (cond a (x ∷ filter q xs) (filter q xs))
          ≡ cond (a && b) (x ∷ filter (λ y. q y && p y) xs) (filter (λ y. q y && p y) xs)
      go true true e ih = rw e (ap (λ ys. x ∷ ys) ih)
      go true false e ih = rw e ih
      go false b e ih = ih

  pub filter_all : (p : X → Bool) (xs : List X) → AllByRecursion (λ x. p x ≡ true) xs → filter p xs ≡ xs
  filter_all p [] all = refl
  filter_all p (x ∷ xs) all = rw all.0 (ap (λ ys. x ∷ ys) (filter_all p xs all.1))

  pub filter_none : (p : X → Bool) (xs : List X) → AllByRecursion (λ x. p x ≡ false) xs → filter p xs ≡ []
  filter_none p [] all = refl
  filter_none p (x ∷ xs) all = rw all.0 (filter_none p xs all.1)

  pub map_unmoved : (g : X → X) (xs : List X) → AllByRecursion (λ x. g x ≡ x) xs → map g xs ≡ xs
  map_unmoved g [] all = refl
  map_unmoved g (x ∷ xs) all = rw all.0 (ap (λ ys. x ∷ ys) (map_unmoved g xs all.1))

  -- of a list in which one passes, what holds of all holds of one that passes
  pub any_has : (p : X → Bool) (P : X → Type 0) (xs : List X) → list_any p xs ≡ true → AllByRecursion P xs
      → (x : X) × (p x ≡ true) × P x
  any_has p P [] h all = clash (sym h)
  any_has p P (x ∷ xs) h all = go (p x) refl h (λ k. any_has p P xs k all.1)
    where
      go : (b : Bool) → p x ≡ b → (b || list_any p xs) ≡ true → (list_any p xs ≡ true → (y : X) × (p y ≡ true) × P y)
          → (y : X) × (p y ≡ true) × P y
      go true e k more = (x, e, all.0)
      go false e k more = more k

  pub any_moved : (p : X → Bool) (g : X → X) → ((x : X) → p (g x) ≡ p x) → (xs : List X)
      → list_any p (map g xs) ≡ list_any p xs
  any_moved p g keep [] = refl
  any_moved p g keep (x ∷ xs) = rw (keep x, any_moved p g keep xs) refl

  -- two tests in either order
  pub filter_swap : (p q : X → Bool) (xs : List X) → filter p (filter q xs) ≡ filter q (filter p xs)
  filter_swap p q [] = refl
  filter_swap p q (x ∷ xs) = go (p x) (q x) refl refl (filter_swap p q xs)
    where
      go : (a b : Bool) → p x ≡ a → q x ≡ b → filter p (filter q xs) ≡ filter q (filter p xs)
          → filter p (cond b (x ∷ filter q xs) (filter q xs)) ≡ filter q (cond a (x ∷ filter p xs) (filter p xs))
      go true true e k ih = rw (e, k) (ap (λ ys. x ∷ ys) ih)
      go true false e k ih = rw k ih
      go false true e k ih = rw e ih
      go false false e k ih = ih

  -- what passes, where one passes or not
  pub any_parts : (p q : X → Bool) (xs : List X)
      → (list_any p (filter (λ x. not (q x)) xs) || list_any p (filter q xs)) ≡ list_any p xs
  any_parts p q [] = refl
  any_parts p q (x ∷ xs) =
      go (q x) (p x) refl (list_any p (filter (λ y. not (q y)) xs)) (list_any p (filter q xs)) refl refl
      (any_parts p q xs)
    where
      go : (a b : Bool) → p x ≡ b → (c d : Bool) → list_any p (filter (λ y. not (q y)) xs) ≡ c
          → list_any p (filter q xs) ≡ d → (c || d) ≡ list_any p xs
          → (list_any p (cond (not a) (x ∷ filter (λ y. not (q y)) xs) (filter (λ y. not (q y)) xs)) || list_any p (cond a (x ∷ filter q xs) (filter q xs))) ≡ (b || list_any p xs)
      go true true e true d k l ih = rw (e, k) refl
      go true true e false d k l ih = rw (e, k) refl
      go true false e c d k l ih = rw (e, k, l) ih
      go false true e c d k l ih = rw e refl
      go false false e c d k l ih = rw (e, k, l) ih

-- ---- what is found

-- where what one test finds passes another, some passes that
pub found_any : {X : Type 0} (p q : X → Bool) (xs : List X) (c : X) → find p xs ≡ Some c → q c ≡ true
    → list_any q xs ≡ true
found_any p q [] c h e = absurd (grind arith)
found_any p q (x ∷ xs) c h e = go (p x) h (found_any p q xs c)
  where
    ends : (b : Bool) → b ≡ true → (d : Bool) → (b || d) ≡ true
    ends true k d = refl
    ends false k d = clash (sym k)

    goes : (b d : Bool) → d ≡ true → (b || d) ≡ true
    goes true d k = refl
    goes false d k = k

    go : (b : Bool) → cond b (Some x) (find p xs) ≡ Some c → (find p xs ≡ Some c → q c ≡ true → list_any q xs ≡ true)
        → (q x || list_any q xs) ≡ true
    go true k ih = let same : c ≡ x = grind arith in ends (q x) (ap q (sym same) ∙ e) (list_any q xs)
    go false k ih = goes (q x) (list_any q xs) (ih k e)

-- ---- the oldest job of a task

-- the job of an id is the first of its task
pub record IsOldest (n : JobId) (jobs : List Job) : Type 0 where
  pub job : Job
  pub others : List Job
  pub is : jobs_of n.task jobs ≡ job ∷ others
  pub id : job.id ≡ n

self_eq : (n : ℕ) → (n == n) ≡ true
self_eq n = grind arith

module _ (S : System) (n : JobId) where
  pub oldest : (jobs : List Job) → Pairs (IsSoundPair S) jobs
      → AllByRecursion (λ j. same_id j.id n ≡ true → j.begun ≡ true) jobs
      → list_any (λ j. same_id j.id n) jobs ≡ true → IsOldest n jobs
  oldest [] pairs begun there = clash (sym there)
  oldest (x ∷ xs) pairs begun there = go (same_id x.id n) refl there (λ k. oldest xs pairs.1 begun.1 k)
    where
      here : same_id x.id n ≡ true → IsOldest n (x ∷ xs)
      here e =
          let same : x.id ≡ n = same_ids x.id n e in
          let task : (x.id.task == n.task) ≡ true = rw same (self_eq n.task) in
          record { job = x; others = jobs_of n.task xs; is = rw task refl; id = same }

      later : IsOldest n xs → (b : Bool) → (x.id.task == n.task) ≡ b
          → AllByRecursion (λ y. (x.id.task ≡ y.id.task → y.begun ≡ false) × (same_id y.id n ≡ true → y.begun ≡ true)) xs
          → list_any (λ j. same_id j.id n) xs ≡ true → IsOldest n (x ∷ xs)
      later o false e all k = record { job = o.job; others = o.others; is = rw e o.is; id = o.id }
      later o true e all k =
          let one =
          any_has (λ j. same_id j.id n)
          (λ y. (x.id.task ≡ y.id.task → y.begun ≡ false) × (same_id y.id n ≡ true → y.begun ≡ true)) xs k all in
          let same : one.0.id ≡ n = same_ids one.0.id n one.1 in
          let task : x.id.task ≡ n.task = grind (arith, e) in
          clash (sym (one.2.1 one.1) ∙ one.2.0 (task ∙ ap (λ (m : JobId). m.task) (sym same)))

      go : (b : Bool) → same_id x.id n ≡ b → (b || list_any (λ j. same_id j.id n) xs) ≡ true
          → (list_any (λ j. same_id j.id n) xs ≡ true → IsOldest n xs) → IsOldest n (x ∷ xs)
      go true e k more = here e
      go false e k more =
          later (more k) (x.id.task == n.task) refl
          (both (λ y. x.id.task ≡ y.id.task → y.begun ≡ false) (λ y. same_id y.id n ≡ true → y.begun ≡ true) xs (all_weaker (IsSoundPair S x) (λ y. x.id.task ≡ y.id.task → y.begun ≡ false) xs (λ y h. h.unbegun) pairs.0) begun.1) k
        where
          both : (P Q : Job → Type 0) (ys : List Job) → AllByRecursion P ys → AllByRecursion Q ys
              → AllByRecursion (λ y. P y × Q y) ys
          both P Q [] p q = tt
          both P Q (y ∷ ys) p q = ((p.0, q.0), both P Q ys p.1 q.1)
