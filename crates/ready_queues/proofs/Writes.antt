-- What is written to a level of the queues, and how many entries there are then.
use Rattle.std.proofs.Common.{◌≡◌, ◌≢◌, ℕ, zero, suc, ◌+◌, ◌<◌, ◌≤◌, List, [], length, refl, ap, ap₂, sym, ◌∙◌, arith, inl, inr}
use Rattle.std.proofs.Math.Path.{fun_ext}
use Rattle.std.proofs.lemmas.Bool.{eq-eqb, ne_eqb, cases_eq, cond-true, cond-false}
use Rattle.ready_queues.specs.Queues.{Queues, no_tasks, with_level, total_below}

-- what is written to a level is there
pub with_level-same : (l : ℕ) (xs : List ℕ) (q : Queues) → with_level l xs q l ≡ xs
unfolding with_level
with_level-same l xs q = cond-true _ xs (q l) (eq-eqb l l refl)

-- other levels stay
pub with_level-other : (l k : ℕ) (xs : List ℕ) (q : Queues) → k ≢ l → with_level l xs q k ≡ q k
unfolding with_level
with_level-other l k xs q other = cond-false _ xs (q k) (ne_eqb l k (λ e. other (sym e)))

-- queues are equal that are equal at a level and at all others
pub same_queues : (l : ℕ) (p q : Queues) → p l ≡ q l → ((k : ℕ) → k ≢ l → p k ≡ q k) → p ≡ q
same_queues l p q here others =
    fun_ext (λ k. elim (cases_eq k l) [ inl e ↦ ap p e ∙ here ∙ sym (ap q e) | inr ne ↦ others k ne ])

-- of two writes to a level the later counts
pub with_level-twice : (l : ℕ) (xs ys : List ℕ) (q : Queues)
    → with_level l ys (with_level l xs q) ≡ with_level l ys q
with_level-twice l xs ys q = same_queues l _ _
    (with_level-same l ys (with_level l xs q) ∙ sym (with_level-same l ys q))
    (λ k ne. with_level-other l k ys (with_level l xs q) ne
    ∙ with_level-other l k xs q ne ∙ sym (with_level-other l k ys q ne))

-- a level that is written as it is stays
pub with_level-as_it_is : (l : ℕ) (q : Queues) → with_level l (q l) q ≡ q
with_level-as_it_is l q =
    same_queues l _ _ (with_level-same l (q l) q) (λ k ne. with_level-other l k (q l) q ne)

-- a write to a higher level leaves the total of those below
pub total_below-other : (n l : ℕ) (xs : List ℕ) (q : Queues) → n ≤ l
    → total_below n (with_level l xs q) ≡ total_below n q
unfolding total_below
total_below-other zero l xs q high = refl
total_below-other (suc n) l xs q high =
    let ne : n ≢ l = λ e. omega arith in
    ap₂ (λ (ys : List ℕ) m. length ys + m) (with_level-other l n xs q ne)
    (total_below-other n l xs q (omega arith))

-- a write changes the total by what it changes the level's length
pub total_below-with_level : (n l : ℕ) (xs : List ℕ) (q : Queues) → l < n
    → total_below n (with_level l xs q) + length (q l) ≡ total_below n q + length xs
unfolding total_below
total_below-with_level zero l xs q low = absurd (omega arith)
total_below-with_level (suc n) l xs q low =
    elim (cases_eq n l) [
      | inl e ↦
          let here : length (with_level l xs q n) ≡ length xs =
          ap length (ap (with_level l xs q) e ∙ with_level-same l xs q) in
          let was : length (q n) ≡ length (q l) = ap (λ k. length (q k)) e in
          let rest = total_below-other n l xs q (omega arith) in
          omega arith
      | inr ne ↦
          let here : length (with_level l xs q n) ≡ length (q n) = ap length (with_level-other l n xs q ne) in
          let rest = total_below-with_level n l xs q (omega arith) in
          omega arith
    ]

pub total_below-none : (n : ℕ) → total_below n no_tasks ≡ 0
unfolding total_below
total_below-none zero = refl
total_below-none (suc n) = ap (λ m. 0 + m) (total_below-none n)

-- no level has more entries than all together
pub length-le-total : (n l : ℕ) (q : Queues) → l < n → length (q l) ≤ total_below n q
length-le-total n l q low =
    let one : total_below n (with_level l [] q) + length (q l) ≡ total_below n q + length {A = ℕ} [] =
    total_below-with_level n l [] q low in
    omega arith

-- queues that are equal below n have as many entries there
pub total_below-same : (n : ℕ) (p q : Queues) → ((k : ℕ) → k < n → p k ≡ q k)
    → total_below n p ≡ total_below n q
unfolding total_below
total_below-same zero p q same = refl
total_below-same (suc n) p q same =
    ap₂ (λ (xs : List ℕ) m. length xs + m) (same n (omega arith))
    (total_below-same n p q (λ k low. same k (omega arith)))
