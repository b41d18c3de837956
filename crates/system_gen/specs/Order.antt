-- OIL: standard object TASK, attribute PRIORITY. The declared places of tasks in the order of their numbers.
use Rattle.std.specs.Prelude.{ℕ, ◌<◌, List, length, slice_index}

-- each is a place of a list of that length
abbrev pub ArePlaces : ℕ → List ℕ → Type 0
ArePlaces size places = (k : ℕ) → k < length places → slice_index places k < size
