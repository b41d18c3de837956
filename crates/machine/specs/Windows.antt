-- The modelled processor. The windows of words in one list: the words of index 0 of each task that
-- there may be, and then of each routine; then those of index 1, and so on.
use Rattle.std.specs.Prelude.{ℕ, ◌≡◌, ◌≤◌, ◌+◌, ◌*◌, Bool, ◌&&◌, nat_lt, if◌then◌else◌, List, slice_index}
use Rattle.osek_base.specs.declared.ids.Owner.{Owner}
use Rattle.osek_base.specs.declared.limits.TheConstants.{MAX_TASKS, MAX_ROUTINES, WINDOW_WORDS}

-- whether an owner has a window
abbrev pub has_window : Owner → Bool
has_window (Owner.Task t) = nat_lt t MAX_TASKS
has_window (Owner.Routine i) = nat_lt i MAX_ROUTINES

-- where an owner's window stands among all
abbrev pub window_of : Owner → ℕ
window_of (Owner.Task t) = t
window_of (Owner.Routine i) = MAX_TASKS + i

-- the word at an index of an owner's window, 0 where there is none
abbrev pub word : List ℕ → Owner → ℕ → ℕ
word words owner index = if has_window owner && nat_lt index WINDOW_WORDS then slice_index words (index * (MAX_TASKS + MAX_ROUTINES) + window_of owner) else 0

-- all words from a place on are 0
abbrev pub IsBlankFrom : ℕ → List ℕ → Type 0
IsBlankFrom used words = (k : ℕ) → used ≤ k → slice_index words k ≡ 0
