-- How many of a list pass a test, and whether one does, where some of it is gone over.
use Rattle.std.proofs.Common.{◌≡◌, ℕ, ◌+◌, ◌≤◌, Bool, List, drop, length}
use Rattle.std.specs.List.{filter}

-- of those gone over so many pass, with the others that makes all, and each of them was gone over
pub record AreCounted (test : ℕ → Bool) (xs : List ℕ) (i count : ℕ) : Type 0 where
  pub whole : count + length (filter test (drop i xs)) ≡ length (filter test xs)
  pub few : count ≤ i
