-- A list of the tasks of each level in place of the function: what a value can hold that has to have a code.
use Rattle.std.specs.Prelude.{ℕ, List, [], map, slice_index_or}
use Rattle.osek_base.specs.Lists.{below}
use Rattle.ready_queues.specs.declared.ready_queues.TheConstants.{LEVELS}
use Rattle.ready_queues.specs.Queues.{Queues}

-- the tasks of each level, by the level's number
abbrev pub level_lists : Queues → List (List ℕ)
level_lists q = map q (below LEVELS)

-- the tasks of a level; past the last list there are none
abbrev pub by_level : List (List ℕ) → Queues
by_level lists l = slice_index_or lists l []
