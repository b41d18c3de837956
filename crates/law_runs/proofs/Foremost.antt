-- Ids tell jobs apart, priorities of jobs that hold nothing, and what the choice falls on.
use Rattle.std.proofs.Common.{◌≡◌, ℕ, ◌≤◌, inl, inr, Bool, true, false, not, ◌||◌, nat_le, List, [], ◌∷◌, refl, sym, ◌∙◌, subst, arith}
use Rattle.std.specs.Prelude.{◌==◌}
use Rattle.std.specs.List.{list_all, AllByRecursion}
use Rattle.osek_base.specs.Lists.{is_foremost}
use Rattle.osek_base.specs.System.{System}
use Rattle.osek_base.specs.State.{Job, JobId, same_id}
use Rattle.osek_base.specs.Priority.{static_priority, dynamic_priority}
use Rattle.law_runs.proofs.Lists.{EitherWay, clash, all_weaker}
use Rattle.std.proofs.lemmas.Bool.{and_parts, and_from}

-- ---- ids

pub equal : (m n : ℕ) → (m == n) ≡ true → m ≡ n
equal m n g = grind (arith, g)

pub same_ids : (a b : JobId) → same_id a b ≡ true → a ≡ b
same_ids a b h =
    let both = and_parts (a.task == b.task) (a.serial == b.serial) h in
    let task : a.task ≡ b.task = equal a.task b.task both.0 in
    let serial : a.serial ≡ b.serial = equal a.serial b.serial both.1 in
    λ i. record { task = task i; serial = serial i }

pub self_equal : (n : ℕ) → (n == n) ≡ true
self_equal n = grind arith

pub same_self : (a : JobId) → same_id a a ≡ true
same_self a = and_from (a.task == a.task) (a.serial == a.serial) (self_equal a.task) (self_equal a.serial)

-- a later job has another id
abbrev pub AreApart : Job → Job → Type 0
AreApart j l = same_id l.id j.id ≡ false

-- only the job itself has its id
pub only : (c : Job) (jobs : List Job) → AllByRecursion (EitherWay AreApart c) jobs → AllByRecursion (λ y. same_id y.id c.id ≡ true → y ≡ c) jobs
only c jobs all = all_weaker (EitherWay AreApart c) (λ y. same_id y.id c.id ≡ true → y ≡ c) jobs one all
  where
    one : (y : Job) → EitherWay AreApart c y → same_id y.id c.id ≡ true → y ≡ c
    one y (inl apart) h = clash (sym h ∙ apart)
    one y (inr (inl apart)) h =
        let same : y.id ≡ c.id = same_ids y.id c.id h in
        clash (sym (same_self c.id) ∙ subst (λ n. same_id c.id n ≡ false) same apart)
    one y (inr (inr e)) h = sym e

-- ---- priorities

pub static_le : (S : System) (j : Job) → static_priority S j ≤ dynamic_priority S j
static_le S j = omega arith

pub idle_priority : (S : System) (j : Job) → j.held ≡ [] → j.taken ≡ false → dynamic_priority S j ≡ static_priority S j
idle_priority S j held taken = rw (held, taken) (omega arith)

-- ---- the choice

module _ {X : Type 0} (test : X → Bool) (rank : X → ℕ) where
  up_step : (b : Bool) (m n k : ℕ) → (not b || nat_le m n) ≡ true → n ≤ k → (not b || nat_le m k) ≡ true
  up_step false m n k h le = refl
  up_step true m n k h le = grind (arith, h, le)

  all_up : (m n : ℕ) (xs : List X) → m ≤ n → list_all (λ y. not (test y) || nat_le (rank y) m) xs ≡ true
      → list_all (λ y. not (test y) || nat_le (rank y) n) xs ≡ true
  all_up m n [] le h = refl
  all_up m n (x ∷ xs) le h =
      let both = and_parts (not (test x) || nat_le (rank x) m) (list_all (λ y. not (test y) || nat_le (rank y) m) xs) h in
      and_from (not (test x) || nat_le (rank x) n) (list_all (λ y. not (test y) || nat_le (rank y) n) xs)
      (up_step (test x) (rank x) m n both.0 le) (all_up m n xs le both.1)

  -- what passes with a rank no less than a foremost one's is foremost too
  pub foremost_too : (xs : List X) (c x : X) → is_foremost test rank xs c ≡ true → test x ≡ true → rank c ≤ rank x
      → is_foremost test rank xs x ≡ true
  foremost_too xs c x h t le =
      and_from (test x) (list_all (λ y. not (test y) || nat_le (rank y) (rank x)) xs) t
      (all_up (rank c) (rank x) xs le (and_parts (test c) (list_all (λ y. not (test y) || nat_le (rank y) (rank c)) xs) h).1)

  le_step : (b : Bool) (m n : ℕ) → (not b || nat_le m n) ≡ true → b ≡ true → m ≤ n
  le_step true m n h e = grind (arith, h)
  le_step false m n h e = clash (sym e)

  all_beneath : (n : ℕ) (xs : List X) → list_all (λ y. not (test y) || nat_le (rank y) n) xs ≡ true
      → AllByRecursion (λ y. test y ≡ true → rank y ≤ n) xs
  all_beneath n [] h = tt
  all_beneath n (x ∷ xs) h =
      let both = and_parts (not (test x) || nat_le (rank x) n) (list_all (λ y. not (test y) || nat_le (rank y) n) xs) h in
      (λ t. le_step (test x) (rank x) n both.0 t, all_beneath n xs both.1)

  -- nothing that passes has a greater rank
  pub foremost_greatest : (xs : List X) (c : X) → is_foremost test rank xs c ≡ true
      → (test c ≡ true) × AllByRecursion (λ y. test y ≡ true → rank y ≤ rank c) xs
  foremost_greatest xs c h =
      let both = and_parts (test c) (list_all (λ y. not (test y) || nat_le (rank y) (rank c)) xs) h in
      (both.0, all_beneath (rank c) xs both.1)
