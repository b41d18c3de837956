-- Since which tick each job of a task is ready, where it hasn't executed since.
use Rattle.std.specs.Prelude.{ℕ, ◌≡◌, Bool, true, false, List, [], ◌∷◌, Option, Some, None, IfSome, nat_lt, if◌then◌else◌, slice_index_or, slice_set}
use Rattle.osek_base.specs.declared.limits.TheConstants.{MAX_TASKS}

-- the stamps of a task's jobs: where it has one, that of the oldest, and those of the later ones
abbrev pub listed : Bool → Option ℕ → List (Option ℕ) → List (Option ℕ)
listed false oldest later = []
listed true oldest later = oldest ∷ later

-- where it has none, there is nothing else
pub record IsTask (has_job : Bool) (oldest : Option ℕ) (later : List (Option ℕ)) : Type 0 where
  pub no_stamp : has_job ≡ false → oldest ≡ None
  pub no_later : has_job ≡ false → later ≡ []

-- the oldest job gets a stamp where it has none
abbrev pub stamp_oldest : ℕ → List (Option ℕ) → List (Option ℕ)
stamp_oldest u [] = []
stamp_oldest u (None ∷ later) = Some u ∷ later
stamp_oldest u (Some v ∷ later) = Some v ∷ later

-- the oldest job's stamp, and it has none any more
abbrev pub stamp_of_oldest : List (Option ℕ) → Option ℕ
stamp_of_oldest [] = None
stamp_of_oldest (p ∷ later) = p

abbrev pub spent_oldest : List (Option ℕ) → List (Option ℕ)
spent_oldest [] = []
spent_oldest (p ∷ later) = None ∷ later

-- the oldest job ends
abbrev pub without_oldest : List (Option ℕ) → List (Option ℕ)
without_oldest [] = []
without_oldest (p ∷ later) = later

-- of each task by number the stamps of its jobs, and a task whose oldest job is known to have none
pub record Stamped : Type 0 where
  pub lists : List (List (Option ℕ))
  pub spent : Option ℕ

-- the task that a number means, which is that of none where it is too high
abbrev pub task_of : ℕ → Option ℕ
task_of n = if nat_lt n MAX_TASKS then Some n else None

-- the stamps of one task are changed, and of that one or none it is known then
abbrev pub changed : ℕ → (List (Option ℕ) → List (Option ℕ)) → Option ℕ → Stamped → Stamped
changed t f known s = record { lists = slice_set s.lists t (f (slice_index_or s.lists t [])); spent = known }

-- the oldest job of a task, where one is named, has no stamp
abbrev pub HasNone : Option ℕ → List (List (Option ℕ)) → Type 0
HasNone named lists = IfSome named (λ t. stamp_of_oldest (slice_index_or lists t []) ≡ None)
