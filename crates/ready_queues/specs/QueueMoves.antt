-- What queues become by a move that names its level.
use Rattle.std.specs.Prelude.{ℕ, zero, suc, ◌==◌, if◌then◌else◌, List, [], ◌∷◌, ◌++◌, Option, Some, None}
use Rattle.osek_base.specs.Lists.{is_empty}
use Rattle.ready_queues.specs.Queues.{Queues}

-- one value of a function is another
abbrev pub changed_at : {X : Type 0} → (ℕ → X) → ℕ → X → ℕ → X
changed_at f n x m = if n == m then x else f m

-- a level gets a task at its end
abbrev pub put_newest : Queues → ℕ → ℕ → Queues
put_newest q l t = changed_at q l (q l ++ t ∷ [])

-- a level gets a task at its front
abbrev pub put_oldest : Queues → ℕ → ℕ → Queues
put_oldest q l t = changed_at q l (t ∷ q l)

-- the tasks behind the first
abbrev pub rest : List ℕ → List ℕ
rest [] = []
rest (t ∷ ts) = ts

-- the first task; where there is none, 0
abbrev pub first : List ℕ → ℕ
first [] = 0
first (t ∷ ts) = t

-- a level loses its first task
abbrev pub without_first_at_level : Queues → ℕ → Queues
without_first_at_level q l = changed_at q l (rest (q l))

-- the highest level below n that has a task
unfoldable pub highest : ℕ → Queues → Option ℕ
highest zero q = None
highest (suc l) q = if is_empty (q l) then highest l q else Some l
