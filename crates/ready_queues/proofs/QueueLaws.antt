-- Laws of ready queues, for whoever rests on the trait: what is first, what is left and how many there are.
use Rattle.std.proofs.Common.{◌≡◌, ℕ, ◌+◌, ◌<◌, Some, List, ◌∷◌, slice_get, drop, ap, ◌∙◌, arith}
use Rattle.ready_queues.specs.declared.ready_queues.TheConstants.{LEVELS}
use Rattle.ready_queues.specs.Queues.{Queues, no_tasks, with_level, total, top_level, first_at, first_task, with_oldest, without_first_at, without_first, HasNoneAbove}
use Rattle.ready_queues.proofs.Writes.{with_level-same, with_level-twice, with_level-as_it_is, total_below-with_level, total_below-none}
use Rattle.ready_queues.proofs.Tops.{top-with_level}

-- ---- a put at a level above which there is none

-- what is put oldest is first
pub first_task-with_oldest : (l t : ℕ) (q : Queues) → l < LEVELS → HasNoneAbove l q
    → first_task (with_oldest l t q) ≡ Some t
first_task-with_oldest l t q low high =
    ap (first_at (with_oldest l t q)) (top-with_level l (t ∷ q l) q low (omega arith) high)
    ∙ ap (λ (xs : List ℕ). slice_get xs 0) (with_level-same l (t ∷ q l) q)

-- and once it is taken, all is as before
pub without_first-with_oldest : (l t : ℕ) (q : Queues) → l < LEVELS → HasNoneAbove l q
    → without_first (with_oldest l t q) ≡ q
without_first-with_oldest l t q low high =
    ap (without_first_at (with_oldest l t q)) (top-with_level l (t ∷ q l) q low (omega arith) high)
    ∙ with_level-twice l (t ∷ q l) (drop 1 (with_oldest l t q l)) q
    ∙ ap (λ (xs : List ℕ). with_level l (drop 1 xs) q) (with_level-same l (t ∷ q l) q)
    ∙ with_level-as_it_is l q

-- the level is on top
pub top-with_oldest : (l t : ℕ) (q : Queues) → l < LEVELS → HasNoneAbove l q → top_level (with_oldest l t q) ≡ Some l
top-with_oldest l t q low high = top-with_level l (t ∷ q l) q low (omega arith) high

-- ---- how many entries there are

-- one more after a put
pub total-with_oldest : (l t : ℕ) (q : Queues) → l < LEVELS → total (with_oldest l t q) ≡ total q + 1
total-with_oldest l t q low = let more = total_below-with_level LEVELS l (t ∷ q l) q low in omega arith

-- none where no level has a task, and none where none is on top
pub total-no_tasks : total no_tasks ≡ 0
total-no_tasks = total_below-none LEVELS
