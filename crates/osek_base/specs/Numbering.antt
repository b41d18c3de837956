-- OIL: standard object TASK, attribute PRIORITY. How tasks are numbered.
use Rattle.std.specs.Prelude.{ℕ, zero, suc, ◌+◌, ◌==◌, List, [], ◌++◌, length, slice_index}
use Rattle.std.specs.List.{filter}
use Rattle.osek_base.specs.Lists.{below}
use Rattle.osek_base.specs.declared.limits.TheConstants.{MAX_TASK_PRIORITY}

-- the declared places of the tasks of that priority, in declaration order
abbrev pub places_of : List ℕ → ℕ → List ℕ
places_of priorities p = filter (λ i. slice_index priorities i == p) (below (length priorities))

-- the declared places of the tasks of priority below p, by falling priority, ties in declaration order
abbrev pub order_below : List ℕ → ℕ → List ℕ
order_below priorities zero = []
order_below priorities (suc p) = places_of priorities p ++ order_below priorities p

-- the declared place of each task, in the order of their numbers
unfoldable pub task_order : List ℕ → List ℕ
task_order priorities = order_below priorities (MAX_TASK_PRIORITY + 1)
