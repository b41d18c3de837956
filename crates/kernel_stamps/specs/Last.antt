-- In which tick a job of each level last executed.
use Rattle.std.specs.Prelude.{ℕ, ◌<◌, ◌≤◌, ◌+◌, List, slice_index_or, slice_set}
use Rattle.osek_base.specs.declared.limits.TheConstants.{MAX_TASK_PRIORITY}

-- of each level the tick after the last one in which a job of it executed, and the level of the job that did so last
pub record Last : Type 0 where
  pub after : List ℕ
  pub level : ℕ

-- a job of a level executes in a tick
abbrev pub noted : ℕ → ℕ → Last → Last
noted level tick l = record { after = slice_set l.after level (tick + 1); level = level }

-- the tick after the last one in which one executed at all
abbrev pub latest : Last → ℕ
latest l = slice_index_or l.after l.level 0

-- no number is greater than that of the level noted last, and none of a lower level is greater than a bound
pub record AreBounds (after : List ℕ) (level bound : ℕ) : Type 0 where
  pub low : level ≤ MAX_TASK_PRIORITY
  pub greatest : (l : ℕ) → slice_index_or after l 0 ≤ slice_index_or after level 0
  pub below : (l : ℕ) → l < level → slice_index_or after l 0 ≤ bound
