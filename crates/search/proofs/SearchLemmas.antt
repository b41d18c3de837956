-- From the first node to the last.
use Rattle.std.proofs.Common.{ℕ, ◌≡◌, ◌≤◌, List, [], length, refl, ap, arith}
use Rattle.std.specs.Prelude.{Any}
use Rattle.std.proofs.lemmas.Option.{slice_get_within}
use Rattle.search.specs.declared.outcome.Limits.{Limits}
use Rattle.search.specs.declared.outcome.Progress.{Progress}
use Rattle.search.specs.declared.outcome.Obstacle.{Obstacle}
use Rattle.search.specs.declared.outcome.Obstacle.TheVariants.{Nodes, Visits, NoPlace}
use Rattle.search.specs.Rules.{Rules, AreKept}
use Rattle.search.specs.Numbers.{is_in}
use Rattle.search.specs.Admitted.{Admits}
use Rattle.search.specs.Visited.{AreVisited}
use Rattle.search.specs.Outcomes.{HasAll, IsWhy}
use Rattle.search.proofs.VisitLemmas.{at_number, through}

-- why it stopped, where it wasn't for the number of visits
pub why : (limits : Limits) (p : Progress) (obstacle : Obstacle) → (obstacle ≡ Nodes → limits.nodes ≤ p.nodes) → (obstacle ≡ Visits → ⊥)
    → IsWhy limits p obstacle
why limits p Nodes full going = full refl
why limits p Visits full going = absurd (going refl)
why limits p NoPlace full going = tt

module _ {N : Type 0} (r : Rules N) where
  -- the first node is admitted where there is none
  pub first_there : AreKept r → (before after : List N) (numbers more : List ℕ) (x : N) → Admits r before numbers after more x → r.is_first x
      → Any r.is_first after
  first_there kept before after numbers more x admits first = through r r.is_first kept.first after x first admits.covered

  pub none_visited : (is_noted : N → ℕ → Type 0) (before after : List N) (numbers more : List ℕ) (x : N) → Admits r before numbers after more x
      → before ≡ [] → AreVisited r is_noted after more
  none_visited is_noted before after numbers more x admits none k y closed =
      let was = admits.stays k y closed in
      absurd (let low = slice_get_within before k y was.here in let empty = ap length none in omega (arith, low, empty))

  -- none is open
  pub all_there : (is_noted : N → ℕ → Type 0) (nodes : List N) (numbers : List ℕ) → numbers ≡ [] → Any r.is_first nodes
      → AreVisited r is_noted nodes numbers → HasAll r is_noted (length nodes)
  all_there is_noted nodes numbers none first visited = record {
    nodes = nodes;
    many = refl;
    all = record {
      first = first;
      visited = λ x there.
          visited there.0 x (record {
            here = at_number nodes x there;
            closed = ap (is_in there.0) none;
          });
    };
  }
