-- OSEK/VDX OS: task management, scheduling policy. The ready tasks in one list, in the order in which they run.
use Rattle.std.specs.Prelude.{ℕ, ◌≡◌, ◌-◌, ◌≤◌, Bool, nat_lt, if◌then◌else◌, ◌==◌, List, [], ◌∷◌, length, Option, Some, None}
use Rattle.ready_queues.specs.declared.ready_queues.TheConstants.{LEVELS}
use Rattle.ready_queues.specs.Queues.{Queues}
use Rattle.services.specs.declared.ready_entry.ReadyEntry.{ReadyEntry}

-- the entries, and how many there is room for
pub record Entries : Type 0 where
  pub entries : List ReadyEntry
  pub room : ℕ

-- the tasks of each level, oldest first
abbrev pub tasks_at : List ReadyEntry → Queues
tasks_at [] l = []
tasks_at (e ∷ es) l = if e.level == l then e.task ∷ tasks_at es l else tasks_at es l

-- the level of the first entry, and its task
abbrev pub first_level : List ReadyEntry → Option ℕ
first_level [] = None
first_level (e ∷ es) = Some e.level

abbrev pub first_ready : List ReadyEntry → Option ℕ
first_ready [] = None
first_ready (e ∷ es) = Some e.task

-- whether an entry is of a lower level
abbrev pub is_below : ℕ → ReadyEntry → Bool
is_below from e = nat_lt e.level from

-- what stands for an entry that isn't there
abbrev pub no_entry : ReadyEntry
no_entry = record { level = 0; task = 0 }

-- an entry is put before the first one of a level below this one
abbrev pub placed : ℕ → ReadyEntry → List ReadyEntry → List ReadyEntry
placed from x [] = x ∷ []
placed from x (e ∷ es) = if is_below from e then x ∷ e ∷ es else e ∷ placed from x es

-- no entry is of a higher level than the one before it, and the first of none above this one
abbrev pub AreFalling : ℕ → List ReadyEntry → Type 0
AreFalling top [] = Unit {0}
AreFalling top (e ∷ es) = (e.level ≤ top) × AreFalling e.level es

-- they stand in order, there is room for them, and so much may be put without memory
pub record IsCompact (entries : List ReadyEntry) (room capacity : ℕ) : Type 0 where
  pub falling : AreFalling (LEVELS - 1) entries
  pub few : length entries ≤ room
  pub roomy : room ≤ capacity

-- the entries become these, and no less may be put without memory
pub record AreLeft (entries after : List ReadyEntry) (old_capacity new_capacity : ℕ) : Type 0 where
  pub items : after ≡ entries
  pub capacity : old_capacity ≤ new_capacity
