-- What a search tells.
use Rattle.std.specs.Prelude.{ℕ, ◌≡◌, ◌<◌, ◌≤◌, List, length, ⊤}
use Rattle.search.specs.declared.outcome.Limits.{Limits}
use Rattle.search.specs.declared.outcome.Progress.{Progress}
use Rattle.search.specs.declared.outcome.Obstacle.{Obstacle}
use Rattle.search.specs.declared.outcome.Obstacle.TheVariants.{Nodes, Visits, NoPlace}
use Rattle.search.specs.declared.outcome.Outcome.{Outcome}
use Rattle.search.specs.declared.outcome.Outcome.TheVariants.{Decided, Undecided}
use Rattle.search.specs.Rules.{Rules}
use Rattle.search.specs.Searched.{AreAll}
use Rattle.search.specs.Levels.{HasLevels}

-- so many nodes stand for all that can come
pub record HasAll {N : Type 0} (r : Rules N) (is_noted : N → ℕ → Type 0) (count : ℕ) : Type 0 where
  pub nodes : List N
  pub many : length nodes ≡ count
  pub all : AreAll r is_noted nodes

-- why it stopped
abbrev pub IsWhy : Limits → Progress → Obstacle → Type 0
IsWhy limits p Nodes = limits.nodes ≤ p.nodes
IsWhy limits p Visits = (p.visits ≡ limits.visits) × (0 < p.open_nodes)
IsWhy limits p NoPlace = ⊤

abbrev pub IsOutcome : {N : Type 0} → Rules N → (N → ℕ → Type 0) → Limits → Outcome → Type 0
IsOutcome r is_noted limits (Decided p) = (p.open_nodes ≡ 0) × HasAll r is_noted p.nodes
IsOutcome r is_noted limits (Undecided obstacle p) = IsWhy limits p obstacle × HasLevels r is_noted p.levels
