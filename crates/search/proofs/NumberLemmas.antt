-- Numbers that are there, or below a count.
use Rattle.std.proofs.Common.{ℕ, ◌+◌, ◌≡◌, ◌<◌, ◌≤◌, Bool, true, false, List, [], ◌∷◌, ◌++◌, refl, sym, ap, ◌∙◌, arith, eqb, ◌||◌, ◌&&◌, zero, suc, take, drop, ◌⊎◌, inl, inr, append_assoc}
use Rattle.std.specs.Prelude.{nat_eq, nat_lt, slice_get, None, IfSome, if◌then◌else◌, Result, Ok, Err, OnOk, OnErr}
use Rattle.std.specs.List.{list_all}
use Rattle.std.proofs.lemmas.Bool.{ltb-true, lt-ltb, eqb-true, and_parts, false≢true}
use Rattle.std.proofs.lemmas.List.Folds.{list_any-append, list_all-append}
use Rattle.std.proofs.lemmas.List.{append-nil}
use Rattle.std.proofs.lemmas.Option.{none-some}
use Rattle.search.specs.Numbers.{is_in, put_in, AreBelow}
use Rattle.search.specs.Admitted.{AreMore}

or_left : (a b : Bool) → (a || b) ≡ false → a ≡ false
or_left true b none = none
or_left false b none = refl

or_same : (a b : Bool) → b ≡ true → (a || b) ≡ true
or_same true b is = refl
or_same false b is = is

and_both : (a b : Bool) → a ≡ true → b ≡ true → (a && b) ≡ true
and_both true b is other = other
and_both false b is other = is

-- ---- a number that is put

eqb_itself : (a : ℕ) → eqb a a ≡ true
eqb_itself a = grind arith

pub is_put : (number : ℕ) (numbers : List ℕ) → is_in number (put_in number numbers) ≡ true
is_put number numbers = go (is_in number numbers) refl
  where
    go : (there : Bool) → is_in number numbers ≡ there → is_in number (if there then numbers else numbers ++ number ∷ []) ≡ true
    go true is = is
    go false is =
        list_any-append (nat_eq number) numbers (number ∷ [])
        ∙ or_same (is_in number numbers) (nat_eq number number || false) (ap (λ b. b || false) (eqb_itself number))

pub was_out : (k number : ℕ) (numbers : List ℕ) → is_in k (put_in number numbers) ≡ false → is_in k numbers ≡ false
was_out k number numbers = go (is_in number numbers)
  where
    go : (there : Bool) → is_in k (if there then numbers else numbers ++ number ∷ []) ≡ false → is_in k numbers ≡ false
    go true out = out
    go false out =
        or_left (is_in k numbers) (nat_eq k number || false) (sym (list_any-append (nat_eq k) numbers (number ∷ [])) ∙ out)

-- ---- below a count

pub below_more : (m n : ℕ) (numbers : List ℕ) → m ≤ n → AreBelow m numbers → AreBelow n numbers
below_more m n [] more below = refl
below_more m n (k ∷ numbers) more below =
    let parts = and_parts (nat_lt k m) (list_all (λ j. nat_lt j m) numbers) below in
    let low : k < m = ltb-true k m parts.0 in
    and_both (nat_lt k n) (list_all (λ j. nat_lt j n) numbers) (lt-ltb k n (omega arith)) (below_more m n numbers more parts.1)

below_put : (n number : ℕ) (numbers : List ℕ) → number < n → AreBelow n numbers → AreBelow n (put_in number numbers)
below_put n number numbers low below = go (is_in number numbers)
  where
    go : (there : Bool) → AreBelow n (if there then numbers else numbers ++ number ∷ [])
    go true = below
    go false =
        list_all-append (λ j. nat_lt j n) numbers (number ∷ [])
        ∙ and_both (list_all (λ j. nat_lt j n) numbers) (nat_lt number n && true) below (ap (λ b. b && true) (lt-ltb number n low))

-- whether or not a number could be put
pub below_result : {A E : Type 0} (r : Result A E) (n number : ℕ) (before after : List ℕ) → number < n → AreBelow n before
    → OnOk r (after ≡ put_in number before) → OnErr r (after ≡ before) → AreBelow n after
below_result (Ok a) n number before after low below is none = ap (list_all (λ j. nat_lt j n)) is ∙ below_put n number before low below
below_result (Err e) n number before after low below none is = ap (list_all (λ j. nat_lt j n)) is ∙ below

-- ---- those in front

or_cases : (a b : Bool) → (a || b) ≡ true → (a ≡ true) ⊎ (b ≡ true)
or_cases true b is = inl refl
or_cases false b is = inr is

or_left_true : (a b : Bool) → a ≡ true → (a || b) ≡ true
or_left_true true b is = refl
or_left_true false b is = absurd (false≢true is)

-- a number that is in front stays so where more come last
pub in_front : (k m n : ℕ) (numbers more : List ℕ) → m ≤ n → is_in k (take m numbers) ≡ true → is_in k (take n (numbers ++ more)) ≡ true
in_front k zero n numbers more low is = absurd (false≢true is)
in_front k (suc m) n [] more low is = absurd (false≢true is)
in_front k (suc m) zero (j ∷ numbers) more low is = absurd (omega (arith, low))
in_front k (suc m) (suc n) (j ∷ numbers) more low is =
    go (or_cases (nat_eq k j) (is_in k (take m numbers)) is) (in_front k m n numbers more (omega (arith, low)))
  where
    go : (nat_eq k j ≡ true) ⊎ (is_in k (take m numbers) ≡ true)
        → (is_in k (take m numbers) ≡ true → is_in k (take n (numbers ++ more)) ≡ true)
        → (nat_eq k j || is_in k (take n (numbers ++ more))) ≡ true
    go (inl same) again = or_left_true (nat_eq k j) (is_in k (take n (numbers ++ more))) same
    go (inr behind) again = or_same (nat_eq k j) (is_in k (take n (numbers ++ more))) (again behind)

-- it is one of the first, or in front of what is left of them
pub first_or_behind : (k m c n : ℕ) (numbers more : List ℕ) → m ≤ c + n → is_in k (take m numbers) ≡ true
    → (is_in k (take c numbers) ≡ true) ⊎ (is_in k (take n (drop c numbers ++ more)) ≡ true)
first_or_behind k zero c n numbers more low is = absurd (false≢true is)
first_or_behind k (suc m) c n [] more low is = absurd (false≢true is)
first_or_behind k (suc m) zero n (j ∷ numbers) more low is = inr (in_front k (suc m) n (j ∷ numbers) more (omega (arith, low)) is)
first_or_behind k (suc m) (suc c) n (j ∷ numbers) more low is =
    go (or_cases (nat_eq k j) (is_in k (take m numbers)) is) (first_or_behind k m c n numbers more (omega (arith, low)))
  where
    later : (is_in k (take c numbers) ≡ true) ⊎ (is_in k (take n (drop c numbers ++ more)) ≡ true)
        → ((nat_eq k j || is_in k (take c numbers)) ≡ true) ⊎ (is_in k (take n (drop c numbers ++ more)) ≡ true)
    later (inl first) = inl (or_same (nat_eq k j) (is_in k (take c numbers)) first)
    later (inr behind) = inr behind

    go : (nat_eq k j ≡ true) ⊎ (is_in k (take m numbers) ≡ true)
        → (is_in k (take m numbers) ≡ true → (is_in k (take c numbers) ≡ true) ⊎ (is_in k (take n (drop c numbers ++ more)) ≡ true))
        → ((nat_eq k j || is_in k (take c numbers)) ≡ true) ⊎ (is_in k (take n (drop c numbers ++ more)) ≡ true)
    go (inl same) again = inl (or_left_true (nat_eq k j) (is_in k (take c numbers)) same)
    go (inr rest) again = later (again rest)

-- a number that is put comes last
pub put_more : (number : ℕ) (numbers : List ℕ) → AreMore numbers (put_in number numbers)
put_more number numbers = go (is_in number numbers)
  where
    go : (there : Bool) → AreMore numbers (if there then numbers else numbers ++ number ∷ [])
    go true = record { more = []; same = sym (append-nil numbers) }
    go false = record { more = number ∷ []; same = refl }

pub none_more : (numbers : List ℕ) → AreMore numbers numbers
none_more numbers = record { more = []; same = sym (append-nil numbers) }

pub and_more : (first second third : List ℕ) → AreMore first second → AreMore second third → AreMore first third
and_more first second third one other = record {
  more = one.more ++ other.more;
  same = other.same ∙ ap (λ (ks : List ℕ). ks ++ other.more) one.same ∙ append_assoc first one.more other.more;
}

-- the only one of a list
pub only_one : (k j : ℕ) → is_in k (take 1 (j ∷ [])) ≡ true → k ≡ j
only_one k j is = go (or_cases (nat_eq k j) false is)
  where
    go : (nat_eq k j ≡ true) ⊎ (false ≡ true) → k ≡ j
    go (inl same) = eqb-true k j same
    go (inr none) = absurd (false≢true none)

-- ---- one less

pub none_left : (numbers : List ℕ) → slice_get numbers 0 ≡ None → numbers ≡ []
none_left [] none = refl
none_left (k ∷ numbers) none = absurd (none-some k (sym none))

pub first_below : (n : ℕ) (numbers : List ℕ) → AreBelow n numbers → IfSome (slice_get numbers 0) (λ k. k < n)
first_below n [] below = tt
first_below n (k ∷ numbers) below = ltb-true k n (and_parts (nat_lt k n) (list_all (λ j. nat_lt j n) numbers) below).0
