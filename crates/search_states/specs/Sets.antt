-- Numbers of a set, one after another.
use Rattle.std.specs.Prelude.{ℕ, ◌≡◌, ◌<◌, ◌≤◌, false, true, Option, Some, None}
use Rattle.search_needs.specs.Table.{has}

-- no number of a set stands between two
abbrev pub HasNone : ℕ → ℕ → ℕ → Type 0
HasNone set from to = (i : ℕ) → from ≤ i → i < to → has set i ≡ false

-- a number of a set of numbers below 64 is the lowest from another one on
pub record IsNext (set from n : ℕ) : Type 0 where
  pub from_on : from ≤ n
  pub low : n < 64
  pub inside : has set n ≡ true
  pub none : HasNone set from n

-- the lowest one from a number on, if there is one
abbrev pub IsLowest : ℕ → ℕ → Option ℕ → Type 0
IsLowest set from None = HasNone set from 64
IsLowest set from (Some n) = IsNext set from n

-- the lowest one from a number on and below another one, if there is one
abbrev pub IsLowestBelow : ℕ → ℕ → ℕ → Option ℕ → Type 0
IsLowestBelow set from limit None = HasNone set from limit
IsLowestBelow set from limit (Some n) = IsNext set from n × (n < limit)
