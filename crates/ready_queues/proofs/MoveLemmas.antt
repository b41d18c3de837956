-- Moves that name their level are those of the trait.
use Rattle.std.proofs.Common.{◌≡◌, ℕ, zero, suc, ◌+◌, ◌-◌, ◌<◌, ◌≤◌, cond, Some, List, [], ◌∷◌, ◌++◌, length, slice_get, drop, refl, ap, sym, ◌∙◌, arith}
use Rattle.osek_base.specs.Lists.{is_empty}
use Rattle.ready_queues.specs.declared.ready_queues.TheConstants.{LEVELS}
use Rattle.ready_queues.specs.Queues.{Queues, with_level, or_below, top_below, top_level, first_at, first_task, with_newest, with_oldest, without_first_at, without_first}
use Rattle.ready_queues.specs.QueueMoves.{changed_at, put_newest, put_oldest, rest, first, without_first_at_level, highest}
use Rattle.ready_queues.proofs.Tops.{IsTop, top_below-is}

pub with_level-changed_at : (l : ℕ) (xs : List ℕ) (q : Queues) → with_level l xs q ≡ changed_at q l xs
unfolding with_level
with_level-changed_at l xs q = refl

pub with_newest-put_newest : (l t : ℕ) (q : Queues) → with_newest l t q ≡ put_newest q l t
with_newest-put_newest l t q = with_level-changed_at l (q l ++ t ∷ []) q

pub with_oldest-put_oldest : (l t : ℕ) (q : Queues) → with_oldest l t q ≡ put_oldest q l t
with_oldest-put_oldest l t q = with_level-changed_at l (t ∷ q l) q

drop-rest : (xs : List ℕ) → drop 1 xs ≡ rest xs
drop-rest [] = refl
drop-rest (x ∷ xs) = refl

get-first : (xs : List ℕ) → 0 < length xs → slice_get xs 0 ≡ Some (first xs)
get-first [] some = absurd (omega arith)
get-first (x ∷ xs) some = refl

-- where a level is on top, the first task is its first
pub first_task-first : (l : ℕ) (q : Queues) → top_level q ≡ Some l → first_task q ≡ Some (first (q l))
first_task-first l q top =
    let t : IsTop LEVELS q l = top_below-is LEVELS q l top in
    ap (first_at q) top ∙ get-first (q l) t.has_task

-- and that one leaves it
pub without_first-level : (l : ℕ) (q : Queues) → top_level q ≡ Some l → without_first q ≡ without_first_at_level q l
without_first-level l q top =
    ap (without_first_at q) top ∙ with_level-changed_at l (drop 1 (q l)) q
    ∙ ap (changed_at q l) (drop-rest (q l))

-- both words for the highest level below n say the same
highest-top_below : (n : ℕ) (q : Queues) → highest n q ≡ top_below n q
unfolding highest top_below
highest-top_below zero q = refl
highest-top_below (suc n) q = go (q n) (highest-top_below n q)
  where
    go : (xs : List ℕ) → highest n q ≡ top_below n q
        → cond (is_empty xs) (highest n q) (Some n) ≡ or_below n xs (top_below n q)
    go [] same = same
    go (x ∷ xs) same = refl

-- levels without a task add nothing
top_below-more : (n k : ℕ) (q : Queues) → ((l : ℕ) → n ≤ l → l < n + k → q l ≡ []) → top_below (n + k) q ≡ top_below n q
unfolding top_below
top_below-more n zero q none = ap (λ m. top_below m q) (omega arith)
top_below-more n (suc k) q none =
    let more : n + suc k ≡ suc (n + k) = omega arith in
    ap (λ m. top_below m q) more
    ∙ ap (λ (xs : List ℕ). or_below (n + k) xs (top_below (n + k) q)) (none (n + k) (omega arith) (omega arith))
    ∙ top_below-more n k q (λ l low high. none l low (omega arith))

-- where no level from n upward has a task, the highest below n is the highest
pub highest-top : (n : ℕ) (q : Queues) → n ≤ LEVELS → ((k : ℕ) → n ≤ k → k < LEVELS → q k ≡ [])
    → highest n q ≡ top_level q
highest-top n q low none =
    let all : n + (LEVELS - n) ≡ LEVELS = omega arith in
    highest-top_below n q ∙ sym (top_below-more n (LEVELS - n) q (λ l from high. none l from (omega arith)))
    ∙ ap (λ m. top_below m q) all
