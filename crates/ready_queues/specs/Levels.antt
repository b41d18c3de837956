-- What ready queues keep that have a ring for each level, and how that stands for the queues.
use Rattle.std.specs.Prelude.{◌≡◌, ℕ, ◌<◌, List, [], ◌∷◌, length, map, slice_index_or}
use Rattle.std.specs.Int.{bit_at}
use Rattle.circular_buffer.specs.Buffer.{Buffer, buffer}
use Rattle.ready_queues.specs.declared.ready_queues.TheConstants.{LEVELS}
use Rattle.ready_queues.specs.Queues.{Queues, total}
use Rattle.ready_queues.specs.LevelLists.{by_level}

-- what a contract sees of them: the tasks of each level, and how many entries there is room for
pub record Levels : Type 0 where
  pub lists : List (List ℕ)
  pub room : ℕ

abbrev pub tasks_of : Levels → Queues
tasks_of v = by_level v.lists

-- the tasks in a ring
abbrev pub items_of : Buffer ℕ → List ℕ
items_of b = b.items

-- what is seen of the rings
abbrev pub seen : List (Buffer ℕ) → ℕ → Levels
seen rings room = record { lists = map items_of rings; room = room }

-- the tasks of each level
abbrev pub tasks_at : List (Buffer ℕ) → Queues
tasks_at rings = by_level (map items_of rings)

-- the ring of a level; past the last there is an empty one
abbrev pub ring_at : List (Buffer ℕ) → ℕ → Buffer ℕ
ring_at rings k = slice_index_or rings k (buffer [] 0)

-- the bit of a level: 1 where it has a task
abbrev pub bit_of : List ℕ → ℕ
bit_of [] = 0
bit_of (task ∷ tasks) = 1

-- each level has a ring with all the room, and the count is that of all entries
pub record IsCounted (rings : List (Buffer ℕ)) (count room : ℕ) : Type 0 where
  pub all : length rings ≡ LEVELS
  pub roomy : (k : ℕ) → k < LEVELS → (ring_at rings k).capacity ≡ room
  pub counted : total (tasks_at rings) ≡ count

-- bit k of the word is set exactly where level k has a task
abbrev pub IsMarked : List (Buffer ℕ) → ℕ → Type 0
IsMarked rings word = (k : ℕ) → k < LEVELS → bit_at word k ≡ bit_of (tasks_at rings k)
