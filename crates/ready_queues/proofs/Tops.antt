-- The highest level that has a task.
use Rattle.std.proofs.Common.{◌≡◌, ◌≢◌, ℕ, zero, suc, ◌<◌, Option, Some, None, List, [], ◌∷◌, length, refl, ap, ap₂, sym, ◌∙◌, arith, inl, inr}
use Rattle.std.proofs.lemmas.Bool.{cases_eq}
use Rattle.ready_queues.specs.declared.ready_queues.TheConstants.{LEVELS}
use Rattle.ready_queues.specs.Queues.{Queues, with_level, or_below, top_below, top_level, HasNoneAbove}
use Rattle.ready_queues.proofs.Writes.{with_level-same, with_level-other}

-- j is the highest level below n that has a task
pub record IsTop (n : ℕ) (q : Queues) (j : ℕ) : Type 0 where
  pub below : j < n
  pub has_task : 0 < length (q j)
  pub none_above : (k : ℕ) → j < k → k < n → q k ≡ []

or_below-task : (n : ℕ) (xs : List ℕ) (found : Option ℕ) → 0 < length xs → or_below n xs found ≡ Some n
or_below-task n [] found some = absurd (omega arith)
or_below-task n (x ∷ xs) found some = refl

-- what is on top is found
pub top_below-some : (n : ℕ) (q : Queues) (j : ℕ) → IsTop n q j → top_below n q ≡ Some j
unfolding top_below
top_below-some zero q j t = let low = t.below in absurd (omega arith)
top_below-some (suc n) q j t =
    elim (cases_eq n j) [
      | inl e ↦
          let here : length (q n) ≡ length (q j) = ap (λ k. length (q k)) e in
          let some = t.has_task in
          or_below-task n (q n) (top_below n q) (omega arith) ∙ ap (λ k. Some k) e
      | inr ne ↦
          let low = t.below in
          let none : q n ≡ [] = t.none_above n (omega arith) (omega arith) in
          let rest : IsTop n q j = record {
            below = omega arith;
            has_task = t.has_task;
            none_above = λ k high within. t.none_above k high (omega arith);
          } in
          ap (λ (xs : List ℕ). or_below n xs (top_below n q)) none ∙ top_below-some n q j rest
    ]

-- where there is none, none is found
pub top_below-none : (n : ℕ) (q : Queues) → ((k : ℕ) → k < n → q k ≡ []) → top_below n q ≡ None
unfolding top_below
top_below-none zero q none = refl
top_below-none (suc n) q none =
    ap (λ (xs : List ℕ). or_below n xs (top_below n q)) (none n (omega arith))
    ∙ top_below-none n q (λ k low. none k (omega arith))

-- what is found is on top
pub top_below-is : (n : ℕ) (q : Queues) (j : ℕ) → top_below n q ≡ Some j → IsTop n q j
unfolding top_below
top_below-is zero q j e = absurd (cc)
top_below-is (suc n) q j e = go (q n) refl e (λ found. top_below-is n q j found)
  where
    go : (xs : List ℕ) → q n ≡ xs → or_below n xs (top_below n q) ≡ Some j → (top_below n q ≡ Some j → IsTop n q j)
        → IsTop (suc n) q j
    go [] empty found rest =
        let t : IsTop n q j = rest found in
        let low = t.below in
        record {
          below = omega arith;
          has_task = t.has_task;
          none_above = λ k high within. elim (cases_eq k n) [
            | inl same ↦ ap q same ∙ empty
            | inr ne ↦ t.none_above k high (omega arith)
          ];
        }
    go (x ∷ xs) full found rest =
        let same : n ≡ j = cc in
        let long : length (q j) ≡ suc (length xs) = ap (λ k. length (q k)) (sym same) ∙ ap length full in
        record { below = omega arith; has_task = omega arith; none_above = λ k high within. absurd (omega arith) }

-- queues that are equal below n have the same on top there
pub top_below-same : (n : ℕ) (p q : Queues) → ((k : ℕ) → k < n → p k ≡ q k) → top_below n p ≡ top_below n q
unfolding top_below
top_below-same zero p q same = refl
top_below-same (suc n) p q same =
    ap₂ (λ (xs : List ℕ) (found : Option ℕ). or_below n xs found) (same n (omega arith))
    (top_below-same n p q (λ k low. same k (omega arith)))

-- a write to a level leaves none above where there was none
pub none_above-with_level : (l : ℕ) (xs : List ℕ) (q : Queues) → HasNoneAbove l q → HasNoneAbove l (with_level l xs q)
none_above-with_level l xs q high = record {
  none = λ k above below. let ne : k ≢ l = λ e. omega arith in with_level-other l k xs q ne ∙ high.none k above below;
}

-- a level that gets tasks is on top where none above has any
pub top-with_level : (l : ℕ) (xs : List ℕ) (q : Queues) → l < LEVELS → 0 < length xs → HasNoneAbove l q
    → top_level (with_level l xs q) ≡ Some l
top-with_level l xs q low some high =
    let long : length (with_level l xs q l) ≡ length xs = ap length (with_level-same l xs q) in
    let after = none_above-with_level l xs q high in
    top_below-some LEVELS (with_level l xs q) l record { below = low; has_task = omega arith; none_above = after.none }
