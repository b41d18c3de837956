-- Sets of things as numbers: a thing is in a set where its bit is 1.
use Rattle.std.specs.Prelude.{ℕ, ◌≤◌, ◌<◌}
use Rattle.std.specs.Int.{bit_at}

abbrev pub IsSubset : ℕ → ℕ → Type 0
IsSubset set whole = (thing : ℕ) → bit_at set thing ≤ bit_at whole thing

-- no number from one up to another is a subset
abbrev pub NoSubset : ℕ → ℕ → ℕ → Type 0
NoSubset whole from to = (set : ℕ) → from ≤ set → set < to → ¬ IsSubset set whole
