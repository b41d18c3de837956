-- What alarms hold that are set: services add what they set, and expiries give it back.
use Rattle.std.proofs.Common.{ℕ, zero, suc, ◌≡◌, ◌<◌, ◌≤◌, ◌+◌, ◌⊎◌, inl, inr, Bool, true, false, cond, not, List, [], ◌∷◌, ◌++◌, length, set, get_or, refl, sym, ap, subst, arith}
use Rattle.std.specs.Prelude.{IfSome, Option, Some, None, is_some, ◌==◌, slice_index_or}
use Rattle.std.specs.List.{AllByRecursion, filter, sum_by}
use Rattle.std.proofs.lemmas.Bool.{cases_lt, eq-eqb, eqb-false}
use Rattle.std.proofs.lemmas.List.Elements.{filter-append}
use Rattle.std.proofs.lemmas.List.Filters.{sum_by-filter_both}
use Rattle.std.proofs.lemmas.List.Sums.{sum_by-append, sum_by-cons}
use Rattle.osek_base.specs.Alarm.{alarms_advanced, count, due_alarms, expiry, is_due, is_due_at, renewed}
use Rattle.osek_base.specs.Lists.{below}
use Rattle.osek_base.specs.State.{Expiry, State}
use Rattle.osek_base.specs.System.{System}
use Rattle.law_alarms.proofs.Along.{a_cycle_on}
use Rattle.law_future.proofs.Tables.{table_at}
use Rattle.law_runs.proofs.Foremost.{equal}
use Rattle.law_runs.proofs.Known.{all_below}
use Rattle.law_runs.proofs.Lists.{all_any, all_weaker, clash}
use Rattle.law_costs.specs.Left.{Weights, left_of_alarms, of_all_alarms}
use Rattle.law_costs.proofs.Totals.{sum_either, sum_within}

-- ---- sums over numbers

module _ (f : ℕ → ℕ) where
  filtered : (b : Bool) (x : ℕ) (xs : List ℕ)
      → sum_by f (cond b (x ∷ xs) xs) ≡ cond b (f x) 0 + sum_by f xs
  filtered true x xs = sum_by-cons f x xs
  filtered false x xs = omega arith

  one_further : (q : ℕ → Bool) (n : ℕ)
      → sum_by f (filter q (below n ++ n ∷ []))
      ≡ sum_by f (filter q (below n)) + cond (q n) (f n) 0
  one_further q n =
      let whole = ap (sum_by f) (filter-append q (below n) (n ∷ [])) in
      let parts = sum_by-append f (filter q (below n)) (filter q (n ∷ [])) in
      let last = filtered (q n) n [] in
      omega (arith, whole, parts, last)

  none_there : (n a : ℕ) → n ≤ a → sum_by f (filter (λ k. k == a) (below n)) ≡ 0
  none_there zero a low = refl
  none_there (suc n) a low =
      let whole = one_further (λ k. k == a) n in
      let before = none_there n a (omega (arith, low)) in
      let last : cond (n == a) (f n) 0 ≡ 0 = go (n == a) refl in
      omega (arith, whole, before, last)
    where
      go : (b : Bool) → (n == a) ≡ b → cond b (f n) 0 ≡ 0
      go false is = refl
      go true is = let same = equal n a is in absurd (omega (arith, same, low))

  -- a number stands once
  once : (n a : ℕ) → sum_by f (filter (λ k. k == a) (below n)) ≤ f a
  once zero a = omega arith
  once (suc n) a =
      let whole = one_further (λ k. k == a) n in
      let before = once n a in
      let low = go (n == a) refl before in
      omega (arith, whole, low)
    where
      -- where it comes last it wasn't there before
      go : (b : Bool) → (n == a) ≡ b
          → sum_by f (filter (λ k. k == a) (below n)) ≤ f a
          → sum_by f (filter (λ k. k == a) (below n)) + cond b (f n) 0 ≤ f a
      go false is before = omega (arith, before)
      go true is before =
          let same = equal n a is in
          let none = none_there n a (omega (arith, same)) in
          let cost = ap f same in
          omega (arith, none, cost)

  -- two parts that are no more than a third, one by one
  two_parts : (q r t : ℕ → Bool) (xs : List ℕ)
      → AllByRecursion (λ x. cond (q x) (f x) 0 + cond (r x) (f x) 0 ≤ cond (t x) (f x) 0) xs
      → sum_by f (filter q xs) + sum_by f (filter r xs) ≤ sum_by f (filter t xs)
  two_parts q r t [] all = omega arith
  two_parts q r t (x ∷ xs) all =
      let first = all.0 in
      let rest = two_parts q r t xs all.1 in
      let one = filtered (q x) x (filter q xs) in
      let other = filtered (r x) x (filter r xs) in
      let whole = filtered (t x) x (filter t xs) in
      omega (arith, first, rest, one, other, whole)

-- ---- an alarm that is set or taken off

was_set : (es : List (Option Expiry)) (b a : ℕ) (o : Option Expiry)
    → is_some (get_or (set es b o) a None) ≡ true
    → (is_some (get_or es a None) ≡ true) ⊎ (a ≡ b)
was_set [] b a o is = inl is
was_set (x ∷ es) zero zero o is = inr refl
was_set (x ∷ es) zero (suc a) o is = inl is
was_set (x ∷ es) (suc b) zero o is = inl is
was_set (x ∷ es) (suc b) (suc a) o is = elim (was_set es b a o is) [
  | inl before ↦ inl before
  | inr same ↦ inr (ap suc same)
]

was_on : (es : List (Option Expiry)) (b a : ℕ) → is_some (get_or (set es b None) a None) ≡ true
    → is_some (get_or es a None) ≡ true
was_on [] b a is = is
was_on (x ∷ es) zero zero is = clash (sym is)
was_on (x ∷ es) zero (suc a) is = is
was_on (x ∷ es) (suc b) zero is = is
was_on (x ∷ es) (suc b) (suc a) is = was_on es b a is

module _ (S : System) (c : Weights) where
  abbrev is_on : List (Option Expiry) → ℕ → Bool
  is_on es a = is_some (slice_index_or es a None)

  -- no more than all of them hold
  pub no_more : (es : List (Option Expiry)) → left_of_alarms S c es ≤ of_all_alarms S c
  no_more es =
      let both =
      sum_by-filter_both (is_on es) (λ a. not (is_on es a)) (λ a. refl) c.of_alarm
      (below (length S.alarms)) in
      omega (arith, both)

  pub one_set : (es : List (Option Expiry)) (b : ℕ) (o : Option Expiry)
      → left_of_alarms S c (set es b o) ≤ left_of_alarms S c es + c.of_alarm b
  one_set es b o =
      let more =
      sum_either c.of_alarm (is_on (set es b o)) (is_on es) (λ a. a == b) (below (length S.alarms))
      (λ a is. elim (was_set es b a o is) [
        | inl before ↦ inl before
        | inr same ↦ inr (eq-eqb a b same)
      ]) in
      let own = once c.of_alarm (length S.alarms) b in
      omega (arith, more, own)

  pub one_off : (es : List (Option Expiry)) (b : ℕ)
      → left_of_alarms S c (set es b None) ≤ left_of_alarms S c es
  one_off es b =
      sum_within c.of_alarm (is_on (set es b None)) (is_on es) (below (length S.alarms))
      (all_any (λ a. is_on (set es b None) a ≡ true → is_on es a ≡ true) (below (length S.alarms))
      (λ a is. was_on es b a is))

  -- ---- expiries

  -- each alarm that is set and pays is to expire once
  abbrev pub AreToExpireOnce : State → Type 0
  AreToExpireOnce s =
      (a : ℕ) → a < length S.alarms → 1 ≤ c.of_alarm a → IfSome (expiry s a) (λ e. e.cycle ≡ 0)

  module _ (s : State) (only : AreToExpireOnce s) where
    -- an alarm that is due goes off, if it pays
    renewed_off : (a : ℕ) (o : Option Expiry)
        → (1 ≤ c.of_alarm a → IfSome o (λ e. e.cycle ≡ 0)) → (b : Bool)
        → is_due_at (count S s a) o ≡ b
        → cond (is_some (cond b (renewed o) o)) (c.of_alarm a) 0 + cond b (c.of_alarm a) 0
        ≤ cond (is_some o) (c.of_alarm a) 0
    renewed_off a o ends false is = omega arith
    renewed_off a None ends true is = clash (sym is)
    renewed_off a (Some e) ends true is = go (e.cycle == 0) refl
      where
        go : (z : Bool) → (e.cycle == 0) ≡ z
            → cond (is_some (cond z None (Some (a_cycle_on e)))) (c.of_alarm a) 0 + c.of_alarm a
            ≤ c.of_alarm a
        go true none = omega arith
        go false some = elim (cases_lt (c.of_alarm a) 1) [
          | inl nothing ↦ omega (arith, nothing)
          | inr pays ↦ absurd (eqb-false e.cycle 0 some (ends pays))
        ]

    one_advanced : (a : ℕ) → a < length S.alarms
        → cond (is_on (alarms_advanced S s) a) (c.of_alarm a) 0
        + cond (is_due S s a) (c.of_alarm a) 0
        ≤ cond (is_on s.alarms a) (c.of_alarm a) 0
    one_advanced a inside =
        subst
        (λ o. cond (is_some o) (c.of_alarm a) 0 + cond (is_due S s a) (c.of_alarm a) 0
        ≤ cond (is_on s.alarms a) (c.of_alarm a) 0)
        (sym
        (table_at (λ k. cond (is_due S s k) (renewed (expiry s k)) (expiry s k)) (length S.alarms) a
        None inside))
        (renewed_off a (expiry s a) (only a inside) (is_due S s a) refl)

    -- what those held that are due is given back
    pub advanced_less : left_of_alarms S c (alarms_advanced S s)
        + sum_by c.of_alarm (due_alarms S s)
        ≤ left_of_alarms S c s.alarms
    advanced_less =
        two_parts c.of_alarm (is_on (alarms_advanced S s)) (is_due S s) (is_on s.alarms)
        (below (length S.alarms))
        (all_weaker (λ a. a < length S.alarms)
        (λ a. cond (is_on (alarms_advanced S s) a) (c.of_alarm a) 0
        + cond (is_due S s a) (c.of_alarm a) 0
        ≤ cond (is_on s.alarms a) (c.of_alarm a) 0)
        (below (length S.alarms)) one_advanced (all_below (length S.alarms)))
