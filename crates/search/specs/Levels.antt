-- Up to how many steps all that can come was tried.
use Rattle.std.specs.Prelude.{ℕ, suc, ◌<◌, List, Any, Contains}
use Rattle.search.specs.Rules.{Rules}
use Rattle.search.specs.Searched.{IsVisited}
use Rattle.search.specs.Admitted.{IsAbove}

-- a node was visited, or one that covers it
pub record IsVisitedAbove {N : Type 0} (r : Rules N) (is_noted : N → ℕ → Type 0) (nodes : List N) (x : N) : Type 0 where
  pub node : N
  pub above : IsAbove r node x
  pub visited : IsVisited r is_noted nodes node

-- lists of nodes, one for each number of steps, stand for all that can come in so many: the first has one for the beginning, and
-- the next has what comes of each node of a list, whatever is chosen
pub record AreLevels {N : Type 0} (r : Rules N) (is_noted : N → ℕ → Type 0) (count : ℕ) (levels : ℕ → List N) : Type 0 where
  pub first : 0 < count → Any r.is_first (levels 0)
  pub visited : (k : ℕ) → k < count → (x : N) → Contains (levels k) x → IsVisitedAbove r is_noted (levels (suc k)) x

pub record HasLevels {N : Type 0} (r : Rules N) (is_noted : N → ℕ → Type 0) (count : ℕ) : Type 0 where
  pub levels : ℕ → List N
  pub are : AreLevels r is_noted count levels
