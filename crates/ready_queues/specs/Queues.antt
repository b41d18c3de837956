-- OSEK/VDX OS: task management, scheduling policy. What a contract sees of ready queues: the ready tasks of each
-- level, oldest first. The levels are the numbers below LEVELS.
use Rattle.std.specs.Prelude.{◌≡◌, ℕ, zero, suc, ◌+◌, ◌<◌, ◌==◌, if◌then◌else◌, List, [], ◌∷◌, ◌++◌, length, drop, slice_get, Option, Some, None}
use Rattle.ready_queues.specs.declared.ready_queues.TheConstants.{LEVELS}

abbrev pub Queues : Type 0
Queues = ℕ → List ℕ

-- no level has a task
abbrev pub no_tasks : Queues
no_tasks = λ k. []

-- the queues with these tasks at one level
unfoldable pub with_level : ℕ → List ℕ → Queues → Queues
with_level level tasks q = λ k. if level == k then tasks else q k

-- a task is added behind those of its level
abbrev pub with_newest : ℕ → ℕ → Queues → Queues
with_newest level task q = with_level level (q level ++ task ∷ []) q

-- a task is added before those of its level
abbrev pub with_oldest : ℕ → ℕ → Queues → Queues
with_oldest level task q = with_level level (task ∷ q level) q

-- how many entries the levels below n have
unfoldable pub total_below : ℕ → Queues → ℕ
total_below zero q = 0
total_below (suc n) q = length (q n) + total_below n q

-- how many entries there are
abbrev pub total : Queues → ℕ
total q = total_below LEVELS q

-- n where it has a task, and else what was found below
abbrev pub or_below : ℕ → List ℕ → Option ℕ → Option ℕ
or_below n [] found = found
or_below n (task ∷ tasks) found = Some n

-- the highest level below n that has a task
unfoldable pub top_below : ℕ → Queues → Option ℕ
top_below zero q = None
top_below (suc n) q = or_below n (q n) (top_below n q)

-- the highest level that has a task
abbrev pub top_level : Queues → Option ℕ
top_level q = top_below LEVELS q

-- the first task of a level, if there is one
abbrev pub first_at : Queues → Option ℕ → Option ℕ
first_at q None = None
first_at q (Some level) = slice_get (q level) 0

-- the first task of the highest level that has one
abbrev pub first_task : Queues → Option ℕ
first_task q = first_at q (top_level q)

-- the queues without the first task of a level
abbrev pub without_first_at : Queues → Option ℕ → Queues
without_first_at q None = q
without_first_at q (Some level) = with_level level (drop 1 (q level)) q

-- the queues without the first task of the highest level that has one
abbrev pub without_first : Queues → Queues
without_first q = without_first_at q (top_level q)

-- no level above this one has a task
pub record HasNoneAbove (level : ℕ) (q : Queues) : Type 0 where
  pub none : (k : ℕ) → level < k → k < LEVELS → q k ≡ []
