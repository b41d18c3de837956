-- What a search comes to.
use Rattle.std.specs.Prelude.{ℕ, List, Any, Contains}
use Rattle.search.specs.Rules.{Rules}

-- a choice was tried in a node: some node of a list stands for what comes of it, and what is seen in it is noted
pub record IsTried {N : Type 0} (r : Rules N) (is_noted : N → ℕ → Type 0) (nodes : List N) (x : N) (choice : ℕ) : Type 0 where
  pub next : Any (r.is_next x choice) nodes
  pub noted : is_noted x choice

-- each choice was that may be made in the node
abbrev pub IsVisited : {N : Type 0} → Rules N → (N → ℕ → Type 0) → List N → N → Type 0
IsVisited r is_noted nodes x = (choice : ℕ) → r.may x choice → IsTried r is_noted nodes x choice

-- nodes stand for all that can come: one for the beginning, and for each of them what comes of it, whatever is chosen
pub record AreAll {N : Type 0} (r : Rules N) (is_noted : N → ℕ → Type 0) (nodes : List N) : Type 0 where
  pub first : Any r.is_first nodes
  pub visited : (x : N) → Contains nodes x → IsVisited r is_noted nodes x
