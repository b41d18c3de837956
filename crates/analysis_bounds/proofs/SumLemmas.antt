-- Sums over the first numbers, one number more.
use Rattle.std.proofs.Common.{ℕ, zero, suc, ◌+◌, ◌≡◌, ◌<◌, Bool, true, false, cond, ◌&&◌, List, [], ◌∷◌, ◌++◌, refl, sym, ◌∙◌, ap, arith}
use Rattle.std.specs.List.{filter, list_all, sum_by}
use Rattle.std.proofs.lemmas.Bool.{and_from, and_parts}
use Rattle.std.proofs.lemmas.List.Elements.{filter-append}
use Rattle.std.proofs.lemmas.List.Sums.{sum_by-append, sum_by-cons, sum_by_push}
use Rattle.osek_base.specs.Lists.{below}

one_more : (n : ℕ) → n + 1 ≡ suc n
one_more n = omega arith

pub add_zero : (n : ℕ) → n ≡ n + 0
add_zero n = omega arith

module _ (f : ℕ → ℕ) (starts upper : ℕ → Bool) where
  last_upper : (b : Bool) (n : ℕ) → sum_by f (cond b (n ∷ []) []) ≡ cond b (f n) 0
  last_upper true n =
      let sum = sum_by-cons f n [] in
      omega (arith, sum)
  last_upper false n = refl

  last_starting : (b : Bool) (n : ℕ)
      → sum_by f (filter upper (cond b (n ∷ []) [])) ≡ cond (b && upper n) (f n) 0
  last_starting true n = last_upper (upper n) n
  last_starting false n = refl

  -- of those that pass both tests
  pub sum_passing_both : (n : ℕ)
      → sum_by f (filter upper (filter starts (below (n + 1))))
      ≡ sum_by f (filter upper (filter starts (below n))) + cond (starts n && upper n) (f n) 0
  sum_passing_both n =
      ap (λ m. sum_by f (filter upper (filter starts (below m)))) (one_more n)
      ∙ ap (λ xs. sum_by f (filter upper xs)) (filter-append starts (below n) (n ∷ []))
      ∙ ap (sum_by f)
      (filter-append upper (filter starts (below n)) (filter starts (n ∷ [])))
      ∙ sum_by-append f (filter upper (filter starts (below n)))
      (filter upper (filter starts (n ∷ [])))
      ∙ ap (λ k. sum_by f (filter upper (filter starts (below n))) + k)
      (last_starting (starts n) n)

pub sum_below_more : (f : ℕ → ℕ) (n : ℕ)
    → sum_by f (below (suc n)) ≡ sum_by f (below n) + f n
sum_below_more f n = sum_by_push f (below n) n

-- of numbers that are the same one by one
pub sum_same : (f h : ℕ → ℕ) (n : ℕ) → ((a : ℕ) → a < n → f a ≡ h a)
    → sum_by f (below n) ≡ sum_by h (below n)
sum_same f h zero each = refl
sum_same f h (suc n) each =
    let rest = sum_same f h n (λ a low. each a (omega (arith, low))) in
    let last = each n (omega arith) in
    let one = sum_below_more f n in
    let other = sum_below_more h n in
    omega (arith, rest, last, one, other)

-- what passes of each number below passes of all
pub all_below : (test : ℕ → Bool) (n : ℕ) → ((a : ℕ) → a < n → test a ≡ true)
    → list_all test (below n) ≡ true
all_below test zero each = refl
all_below test (suc n) each =
    list_all_push test (below n) n (all_below test n (λ a low. each a (omega (arith, low))))
    (each n (omega arith))
  where
    list_all_push : (test : ℕ → Bool) (xs : List ℕ) (x : ℕ) → list_all test xs ≡ true
        → test x ≡ true → list_all test (xs ++ x ∷ []) ≡ true
    list_all_push test [] x all last = and_from (test x) true last refl
    list_all_push test (y ∷ xs) x all last =
        let both = and_parts (test y) (list_all test xs) all in
        and_from (test y) (list_all test (xs ++ x ∷ [])) both.0
        (list_all_push test xs x both.1 last)
