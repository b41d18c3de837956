-- Tests of two, and of each element of a list.
use Rattle.std.proofs.Common.{◌≡◌, ◌⊎◌, inl, inr, ℕ, zero, suc, ◌<◌, ◌≤◌, Bool, true, false, not, ◌||◌, List, [], ◌∷◌, ◌++◌, refl, sym, ◌∙◌, ap, arith}
use Rattle.std.specs.List.{AllByRecursion, list_all, list_any}
use Rattle.std.proofs.lemmas.Bool.{and_from, and_parts, cases_lt}
use Rattle.osek_base.specs.Lists.{below}
use Rattle.law_runs.proofs.Lists.{clash}

-- ---- one of two

pub first_of : (b c : Bool) → b ≡ true → (b || c) ≡ true
first_of true c h = refl
first_of false c h = clash (sym h)

pub second_of : (b c : Bool) → c ≡ true → (b || c) ≡ true
second_of true c h = refl
second_of false c h = h

-- one of two that isn't the first is the second
pub second : (a b : Bool) → a ≡ false → (a || b) ≡ true → b ≡ true
second true b is h = clash is
second false b is h = h

pub unless : (a b : Bool) → a ≡ true → (not a || b) ≡ true → b ≡ true
unless true b is h = h
unless false b is h = clash (sym is)

-- ---- each of a list

module _ {X : Type 0} where
  -- what follows of each element that passes both follows
  pub by_any : (C : Type 0) (p q : X → Bool) (xs : List X) → ((x : X) → p x ≡ true → q x ≡ true → C)
      → list_any p xs ≡ true → list_all q xs ≡ true → C
  by_any C p q [] step any all = clash (sym any)
  by_any C p q (x ∷ xs) step any all =
      go (p x) refl any (and_parts (q x) (list_all q xs) all) (by_any C p q xs step)
    where
      go : (b : Bool) → p x ≡ b → (b || list_any p xs) ≡ true
          → (q x ≡ true) × (list_all q xs ≡ true)
          → (list_any p xs ≡ true → list_all q xs ≡ true → C) → C
      go true is some both rest = step x is both.0
      go false is some both rest = rest some both.1

  -- .. and has what holds of each
  pub by_any_of : (C : Type 0) (p q : X → Bool) (P : X → Type 0) (xs : List X)
      → ((x : X) → p x ≡ true → q x ≡ true → P x → C) → list_any p xs ≡ true
      → list_all q xs ≡ true → AllByRecursion P xs → C
  by_any_of C p q P [] step any all each = clash (sym any)
  by_any_of C p q P (x ∷ xs) step any all each =
      go (p x) refl any (and_parts (q x) (list_all q xs) all)
      (λ later rest. by_any_of C p q P xs step later rest each.1)
    where
      go : (b : Bool) → p x ≡ b → (b || list_any p xs) ≡ true
          → (q x ≡ true) × (list_all q xs ≡ true)
          → (list_any p xs ≡ true → list_all q xs ≡ true → C) → C
      go true is some both rest = step x is both.0 each.0
      go false is some both rest = rest some both.1

  pub any_weaker : (p q : X → Bool) (xs : List X) → ((x : X) → p x ≡ true → q x ≡ true)
      → list_any p xs ≡ true → list_any q xs ≡ true
  any_weaker p q [] step any = any
  any_weaker p q (x ∷ xs) step any = go (p x) refl any (any_weaker p q xs step)
    where
      go : (b : Bool) → p x ≡ b → (b || list_any p xs) ≡ true
          → (list_any p xs ≡ true → list_any q xs ≡ true) → (q x || list_any q xs) ≡ true
      go true is some rest = first_of (q x) (list_any q xs) (step x is)
      go false is some rest = second_of (q x) (list_any q xs) (rest some)

  all_parts : (p : X → Bool) (xs ys : List X) → list_all p (xs ++ ys) ≡ true
      → (list_all p xs ≡ true) × (list_all p ys ≡ true)
  all_parts p [] ys h = (refl, h)
  all_parts p (x ∷ xs) ys h =
      let both = and_parts (p x) (list_all p (xs ++ ys)) h in
      let rest = all_parts p xs ys both.1 in
      (and_from (p x) (list_all p xs) both.0 rest.0, rest.1)

last_or_below : (n i : ℕ) → i < suc n → (i ≡ n) ⊎ (i < n)
last_or_below n i less = go (cases_lt i n)
  where
    go : (i < n) ⊎ (n ≤ i) → (i ≡ n) ⊎ (i < n)
    go (inl under) = inr under
    go (inr over) = inl (omega arith)

-- what passes of all numbers below passes of each
pub one_below : (p : ℕ → Bool) (n i : ℕ) → i < n → list_all p (below n) ≡ true → p i ≡ true
one_below p zero i less all = absurd (omega arith)
one_below p (suc n) i less all =
    let parts = all_parts p (below n) (n ∷ []) all in
    go (last_or_below n i less) (and_parts (p n) true parts.1).0
    (λ under. one_below p n i under parts.0)
  where
    go : ((i ≡ n) ⊎ (i < n)) → p n ≡ true → (i < n → p i ≡ true) → p i ≡ true
    go (inl same) last rest = ap p same ∙ last
    go (inr under) last rest = rest under

-- what passes of all has what each that passes has
pub each_passing : {X : Type 0} (P : X → Type 0) (test : X → Bool) (xs : List X)
    → ((x : X) → test x ≡ true → P x) → list_all test xs ≡ true → AllByRecursion P xs
each_passing P test [] step all = tt
each_passing P test (x ∷ xs) step all =
    let both = and_parts (test x) (list_all test xs) all in
    (step x both.0, each_passing P test xs step both.1)
