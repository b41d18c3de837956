-- The list of the tasks of each level stands for the queues: each word on queues says the same of both.
use Rattle.std.proofs.Common.{◌≡◌, ℕ, zero, suc, ◌<◌, ◌≤◌, Option, Some, None, List, [], ◌∷◌, ◌++◌, map, length, slice_get, drop, get_or, refl, ap, sym, ◌∙◌, arith, inl, inr, length-append}
use Rattle.std.proofs.lemmas.Bool.{cases_eq, cases_lt}
use Rattle.std.proofs.lemmas.List.{get_or_push, get_or_past, get_or_append_left, map-append, length-map}
use Rattle.osek_base.specs.Lists.{below}
use Rattle.ready_queues.specs.declared.ready_queues.TheConstants.{LEVELS}
use Rattle.ready_queues.specs.Queues.{Queues, no_tasks, with_level, total, top_level, first_at, first_task, with_newest, with_oldest, without_first_at, without_first}
use Rattle.ready_queues.specs.LevelLists.{level_lists, by_level}
use Rattle.ready_queues.proofs.Writes.{with_level-same, with_level-other, same_queues, total_below-same}
use Rattle.ready_queues.proofs.Tops.{IsTop, top_below-is, top_below-same}

length-below : (n : ℕ) → length (below n) ≡ n
length-below zero = refl
length-below (suc n) = let e = length-below n in let l = length-append (below n) (n ∷ []) in omega arith

length-lists : (n : ℕ) (q : Queues) → length (map q (below n)) ≡ n
length-lists n q = length-map (below n) q ∙ length-below n

at_below : (n l : ℕ) (q : Queues) → l < n → get_or (map q (below n)) l [] ≡ q l
at_below zero l q low = absurd (omega arith)
at_below (suc n) l q low =
    let long = length-lists n q in
    ap (λ (xss : List (List ℕ)). get_or xss l []) (map-append q (below n) (n ∷ []))
    ∙ elim (cases_eq l n) [
      | inl e ↦ get_or_push (map q (below n)) (q n) [] l (omega arith) ∙ ap q (sym e)
      | inr ne ↦ get_or_append_left (map q (below n)) (q n ∷ []) [] l (omega arith) ∙ at_below n l q (omega arith)
    ]

-- the list has the tasks of each level
pub by_level-below : (q : Queues) (l : ℕ) → l < LEVELS → by_level (level_lists q) l ≡ q l
by_level-below q l low = at_below LEVELS l q low

-- and nothing behind them
pub by_level-past : (q : Queues) (l : ℕ) → LEVELS ≤ l → by_level (level_lists q) l ≡ []
by_level-past q l high = let long = length-lists LEVELS q in get_or_past (level_lists q) l [] (omega arith)

-- a write to the queues is a write to the list
pub by_level-with_level : (l : ℕ) (xs : List ℕ) (q : Queues) → l < LEVELS
    → by_level (level_lists (with_level l xs q)) ≡ with_level l xs (by_level (level_lists q))
by_level-with_level l xs q low =
    let p = by_level (level_lists q) in
    same_queues l _ _
    (by_level-below (with_level l xs q) l low ∙ with_level-same l xs q ∙ sym (with_level-same l xs p))
    (λ k ne. elim (cases_lt k LEVELS) [
      | inl inside ↦ by_level-below (with_level l xs q) k inside ∙ with_level-other l k xs q ne
          ∙ sym (with_level-other l k xs p ne ∙ by_level-below q k inside)
      | inr past ↦ by_level-past (with_level l xs q) k past
          ∙ sym (with_level-other l k xs p ne ∙ by_level-past q k past)
    ])

pub by_level-no_tasks : by_level (level_lists no_tasks) ≡ no_tasks
by_level-no_tasks = same_queues 0 _ _ (all 0) (λ k ne. all k)
  where
    all : (k : ℕ) → by_level (level_lists no_tasks) k ≡ no_tasks k
    all k = elim (cases_lt k LEVELS) [
      | inl low ↦ by_level-below no_tasks k low
      | inr high ↦ by_level-past no_tasks k high
    ]

pub by_level-with_newest : (l t : ℕ) (q : Queues) → l < LEVELS
    → by_level (level_lists (with_newest l t q)) ≡ with_newest l t (by_level (level_lists q))
by_level-with_newest l t q low =
    by_level-with_level l (q l ++ t ∷ []) q low
    ∙ ap (λ (xs : List ℕ). with_level l (xs ++ t ∷ []) (by_level (level_lists q))) (sym (by_level-below q l low))

pub by_level-with_oldest : (l t : ℕ) (q : Queues) → l < LEVELS
    → by_level (level_lists (with_oldest l t q)) ≡ with_oldest l t (by_level (level_lists q))
by_level-with_oldest l t q low =
    by_level-with_level l (t ∷ q l) q low
    ∙ ap (λ (xs : List ℕ). with_level l (t ∷ xs) (by_level (level_lists q))) (sym (by_level-below q l low))

-- both have the same level on top, and as many entries
pub top_level-by_level : (q : Queues) → top_level (by_level (level_lists q)) ≡ top_level q
top_level-by_level q = top_below-same LEVELS (by_level (level_lists q)) q (λ k low. by_level-below q k low)

pub total-by_level : (q : Queues) → total (by_level (level_lists q)) ≡ total q
total-by_level q = total_below-same LEVELS (by_level (level_lists q)) q (λ k low. by_level-below q k low)

-- both have the same first task
pub first_task-by_level : (q : Queues) → first_task (by_level (level_lists q)) ≡ first_task q
first_task-by_level q = ap (first_at (by_level (level_lists q))) (top_level-by_level q) ∙ go (top_level q) refl
  where
    go : (found : Option ℕ) → top_level q ≡ found → first_at (by_level (level_lists q)) found ≡ first_at q found
    go None top = refl
    go (Some l) top =
        let t : IsTop LEVELS q l = top_below-is LEVELS q l top in
        ap (λ (xs : List ℕ). slice_get xs 0) (by_level-below q l t.below)

-- and the same is left without it
pub by_level-without_first : (q : Queues)
    → by_level (level_lists (without_first q)) ≡ without_first (by_level (level_lists q))
by_level-without_first q =
    go (top_level q) refl ∙ sym (ap (without_first_at (by_level (level_lists q))) (top_level-by_level q))
  where
    go : (found : Option ℕ) → top_level q ≡ found
        → by_level (level_lists (without_first_at q found)) ≡ without_first_at (by_level (level_lists q)) found
    go None top = refl
    go (Some l) top =
        let t : IsTop LEVELS q l = top_below-is LEVELS q l top in
        by_level-with_level l (drop 1 (q l)) q t.below
        ∙ ap (λ (xs : List ℕ). with_level l (drop 1 xs) (by_level (level_lists q))) (sym (by_level-below q l t.below))
