-- Numbers that are put last and taken first, with their marks.
use Rattle.std.proofs.Common.{ℕ, ◌≡◌, ◌<◌, ◌≤◌, Bool, true, false, List, [], ◌∷◌, ◌++◌, set, length, get_or, refl, sym, ap, ◌∙◌, arith, ◌⊎◌, inl, inr, eqb, ◌||◌, rules}
use Rattle.std.specs.Prelude.{nat_eq}
use Rattle.std.specs.List.{IsDistinct, AllByRecursion}
use Rattle.std.specs.Cmp.{nat_eq_equiv}
use Rattle.std.proofs.lemmas.Bool.{cases_eq, ne_eqb}
use Rattle.std.proofs.lemmas.List.{get_or-set_same, get_or-set_other, get_or_past}
use Rattle.std.proofs.lemmas.List.Folds.{list_any-append}
use Rattle.std.proofs.lemmas.Map.Keys.{IsDistinct-push}
use Rattle.search.specs.Numbers.{is_in, AreMarked}

or_false : (b : Bool) → (b || false) ≡ b
or_false true = refl
or_false false = refl

or_true : (b : Bool) → (b || true) ≡ true
or_true true = refl
or_true false = refl

eqb_same : (a b : ℕ) → a ≡ b → eqb a b ≡ true
eqb_same a b same = grind arith

pub none_marked : AreMarked [] []
unfolding IsDistinct
none_marked = record { once = search rules; marked = λ k. refl }

pub same_marks : (numbers : List ℕ) (marks more : List Bool) → AreMarked numbers marks
    → ((k : ℕ) → get_or more k false ≡ get_or marks k false) → AreMarked numbers more
same_marks numbers marks more are same = record { once = are.once; marked = λ k. same k ∙ are.marked k }

-- a number more
pub put_marked : (numbers : List ℕ) (marks : List Bool) (number : ℕ) → AreMarked numbers marks → number < length marks
    → is_in number numbers ≡ false → AreMarked (numbers ++ number ∷ []) (set marks number true)
put_marked numbers marks number are low new = record {
  once = IsDistinct-push nat_eq_equiv numbers number are.once new;
  marked = λ k. at k (cases_eq k number);
}
  where
    at : (k : ℕ) → (k ≡ number) ⊎ (k ≡ number → ⊥) → get_or (set marks number true) k false ≡ is_in k (numbers ++ number ∷ [])
    at k (inl same) =
        ap (λ j. get_or (set marks number true) j false) same ∙ get_or-set_same marks number true false low
        ∙ sym (list_any-append (nat_eq k) numbers (number ∷ [])
        ∙ ap (λ b. is_in k numbers || (b || false)) (eqb_same k number same) ∙ or_true (is_in k numbers))
    at k (inr other) =
        get_or-set_other marks number k true false other ∙ are.marked k
        ∙ sym (list_any-append (nat_eq k) numbers (number ∷ [])
        ∙ ap (λ b. is_in k numbers || (b || false)) (ne_eqb k number other) ∙ or_false (is_in k numbers))

none_in : (number : ℕ) (numbers : List ℕ) → AllByRecursion (λ y. nat_eq number y ≡ false) numbers → is_in number numbers ≡ false
none_in number [] apart = refl
none_in number (n ∷ numbers) apart = ap (λ b. b || is_in number numbers) apart.0 ∙ none_in number numbers apart.1

-- the first number is gone
pub taken_gone : (number : ℕ) (numbers : List ℕ) (marks : List Bool) → AreMarked (number ∷ numbers) marks → is_in number numbers ≡ false
unfolding IsDistinct
taken_gone number numbers marks are = none_in number numbers are.once.0

pub taken_marked : (number : ℕ) (numbers : List ℕ) (marks : List Bool) → AreMarked (number ∷ numbers) marks → number < length marks
    → AreMarked numbers (set marks number false)
unfolding IsDistinct
taken_marked number numbers marks are low = record {
  once = are.once.1;
  marked = λ k. at k (cases_eq k number);
}
  where
    at : (k : ℕ) → (k ≡ number) ⊎ (k ≡ number → ⊥) → get_or (set marks number false) k false ≡ is_in k numbers
    at k (inl same) =
        ap (λ j. get_or (set marks number false) j false) same ∙ get_or-set_same marks number false false low
        ∙ sym (ap (λ j. is_in j numbers) same ∙ taken_gone number numbers marks are)
    at k (inr other) =
        get_or-set_other marks number k false false other ∙ are.marked k
        ∙ ap (λ b. b || is_in k numbers) (ne_eqb k number other)

-- it has a mark
pub has_mark : (number : ℕ) (numbers : List ℕ) (marks : List Bool) → AreMarked (number ∷ numbers) marks → length marks ≤ number → ⊥
has_mark number numbers marks are high =
    let marked : true ≡ false = sym (ap (λ b. b || is_in number numbers) (eqb_same number number refl)) ∙ sym (are.marked number) ∙ get_or_past marks number false high in
    cc
