-- One more in lists that go along with others.
use Rattle.std.proofs.Common.{◌≡◌, ◌⊎◌, inl, inr, ℕ, zero, suc, ◌+◌, ◌<◌, Bool, true, ◌&&◌, List, [], ◌∷◌, ◌++◌, map, take, get_or, add-one, length, slice_get, refl, sym, ◌∙◌, ap, subst, arith, not-suc-le-zero, le_of_suc-le-suc}
use Rattle.std.specs.Prelude.{Some}
use Rattle.std.specs.List.{list_all}
use Rattle.std.proofs.lemmas.Bool.{and_from}
use Rattle.std.proofs.lemmas.List.{length-append, map-append, take_more}
use Rattle.std.proofs.lemmas.List.Folds.{list_all-append}
use Rattle.std.proofs.lemmas.Option.{none-some, same_Some}
use Rattle.osek_base.specs.declared.ids.Owner.{Owner}
use Rattle.osek_base.specs.Lists.{below}
use Rattle.osek_base.specs.System.{System}
use Rattle.law_nodes.specs.Nodes.{Node, Table, covers, fresh_node, is_covered}
use Rattle.analysis_nodes.specs.declared.graph.Graph.{Graph}
use Rattle.analysis_nodes.specs.declared.graph.Links.{Links}
use Rattle.analysis_nodes.specs.declared.graph.Way.{Way}
use Rattle.analysis_nodes.specs.declared.node.Node.{Node as Kept}
use Rattle.analysis_nodes.specs.Graph.{AreCoveredBy, AreLinked, AreWays, IsCoveredBy, IsGraph, IsLinked, IsWay, table_of}
use Rattle.analysis_nodes.specs.declared.outcome.Outcome.{Outcome as Told}
use Rattle.analysis_nodes.specs.Nodes.{node_by, outcome_told}
use Rattle.analysis_nodes.specs.Outcomes.{Outcome}

-- of the first elements, one more
pub map_more : {X Y : Type 0} (f : X → Y) (xs : List X) (i : ℕ) (d : X) → i < length xs
    → map f (take (i + 1) xs) ≡ map f (take i xs) ++ f (get_or xs i d) ∷ []
map_more f xs i d low =
    ap (map f) (take_more xs i d low) ∙ map-append f (take i xs) (get_or xs i d ∷ [])

module _ (table : Table) where
  pub covered_more : (numbers : List ℕ) (next : Table) (k : ℕ) (n : Node)
      → AreCoveredBy table numbers next → IsCoveredBy table k n
      → AreCoveredBy table (numbers ++ k ∷ []) (next ++ n ∷ [])
  covered_more [] [] k n all last = (last, tt)
  covered_more [] (m ∷ next) k n all last = absurd all
  covered_more (j ∷ numbers) [] k n all last = absurd all
  covered_more (j ∷ numbers) (m ∷ next) k n all last =
      (all.0, covered_more numbers next k n all.1 last)

  pub ways_more : (ways : List Way) (others : List Outcome) (w : Way) (o : Outcome)
      → AreWays table ways others → IsWay table w o
      → AreWays table (ways ++ w ∷ []) (others ++ o ∷ [])
  ways_more [] [] w o all last = (last, tt)
  ways_more [] (p ∷ others) w o all last = absurd all
  ways_more (v ∷ ways) [] w o all last = absurd all
  ways_more (v ∷ ways) (p ∷ others) w o all last = (all.0, ways_more ways others w o all.1 last)

-- an element of a list with one more is one of the list or that one
one_of : {X : Type 0} (xs : List X) (x y : X) (k : ℕ) → slice_get (xs ++ x ∷ []) k ≡ Some y
    → (slice_get xs k ≡ Some y) ⊎ ((k ≡ length xs) × (x ≡ y))
one_of [] x y zero at = inr (refl, same_Some x y at)
one_of [] x y (suc k) at = absurd (none-some y at)
one_of (z ∷ xs) x y zero at = inl at
one_of (z ∷ xs) x y (suc k) at = go (one_of xs x y k at)
  where
    go : (slice_get xs k ≡ Some y) ⊎ ((k ≡ length xs) × (x ≡ y))
        → (slice_get xs k ≡ Some y) ⊎ ((suc k ≡ suc (length xs)) × (x ≡ y))
    go (inl before) = inl before
    go (inr last) = inr (ap suc last.0, last.1)

-- the element at a number, of a list to which another one is mapped
mapped_at : {X Y : Type 0} (f : X → Y) (xs : List X) (k : ℕ) (d : X) (y : Y) → k < length xs
    → slice_get (map f xs) k ≡ Some y → f (get_or xs k d) ≡ y
mapped_at f [] k d y low at = absurd (none-some y at)
mapped_at f (x ∷ xs) zero d y low at = same_Some (f x) y at
mapped_at f (x ∷ xs) (suc k) d y low at =
    let lower : k < length xs = omega arith in
    mapped_at f xs k d y lower at

pub linked_more : (S : System) (nodes : List Kept) (k : ℕ) (links : List Links) (l : Links)
    (d : Kept) → k < length nodes → AreLinked S nodes k links
    → IsLinked S (map node_by nodes) (node_by (get_or nodes k d)) l
    → AreLinked S nodes (k + 1) (links ++ l ∷ [])
linked_more S nodes k links l d low are last =
    record {
      many = length-append links (l ∷ []) ∙ ap (λ m. m + 1) are.many;
      each_linked = each;
    }
  where
    each : (number : ℕ) (n : Node) (q : Links) → slice_get (map node_by nodes) number ≡ Some n
        → slice_get (links ++ l ∷ []) number ≡ Some q → IsLinked S (map node_by nodes) n q
    each number n q at stands = go (one_of links l q number stands)
      where
        go : (slice_get links number ≡ Some q) ⊎ ((number ≡ length links) × (l ≡ q))
            → IsLinked S (map node_by nodes) n q
        go (inl before) = are.each_linked number n q at before
        go (inr here) =
            let place : number ≡ k = here.0 ∙ are.many in
            let same : node_by (get_or nodes k d) ≡ n =
            mapped_at node_by nodes k d n low
            (subst (λ m. slice_get (map node_by nodes) m ≡ Some n) place at) in
            subst (λ m. IsLinked S (map node_by nodes) m q) same
            (subst (λ m. IsLinked S (map node_by nodes) (node_by (get_or nodes k d)) m) here.1 last)

-- what holds of all numbers below one and of that holds of all below the next
below_next : (p : ℕ → Bool) (k : ℕ) → list_all p (below k) ≡ true → p k ≡ true
    → list_all p (below (suc k)) ≡ true
below_next p k all last =
    list_all-append p (below k) (k ∷ [])
    ∙ and_from (list_all p (below k)) (p k && true) all (and_from (p k) true last refl)

pub below_more : (p : ℕ → Bool) (k : ℕ) → list_all p (below k) ≡ true → p k ≡ true
    → list_all p (below (k + 1)) ≡ true
below_more p k all last = rw add-one (below_next p k all last)

-- a node of a number covers
get_mapped : {X Y : Type 0} (f : X → Y) (xs : List X) (k : ℕ) (d : X) → k < length xs
    → slice_get (map f xs) k ≡ Some (f (get_or xs k d))
get_mapped f [] k d low = absurd (not-suc-le-zero low)
get_mapped f (x ∷ xs) zero d low = refl
get_mapped f (x ∷ xs) (suc k) d low = get_mapped f xs k d (le_of_suc-le-suc low)

pub covers_at : (nodes : List Kept) (k : ℕ) (m : Kept) (n : Node) → k < length nodes
    → m ≡ get_or nodes k m → covers (node_by m) n ≡ true → IsCoveredBy (map node_by nodes) k n
covers_at nodes k m n low is over =
    record {
      node = node_by m;
      stands =
          get_mapped node_by nodes k m low ∙ ap (λ (x : Kept). Some (node_by x)) (sym is);
      covers_it = over;
    }

-- ---- steps of loops

-- of the elements gone over, each with its own, one more
pub numbers_step : (table : Table) (numbers new : List ℕ) (next : List Kept) (i : ℕ) (x : Kept)
    (k : ℕ) → i < length next → x ≡ get_or next i x → new ≡ numbers ++ k ∷ []
    → AreCoveredBy table numbers (map node_by (take i next)) → IsCoveredBy table k (node_by x)
    → AreCoveredBy table new (map node_by (take (i + 1) next))
numbers_step table numbers new next i x k low is more all last =
    subst (λ (ns : List ℕ). AreCoveredBy table ns (map node_by (take (i + 1) next))) (sym more)
    (subst (λ (ms : Table). AreCoveredBy table (numbers ++ k ∷ []) ms)
    (sym (map_more node_by next i x low))
    (covered_more table numbers (map node_by (take i next)) k (node_by (get_or next i x)) all
    (subst (λ (y : Kept). IsCoveredBy table k (node_by y)) is last)))

pub ways_step : (table : Table) (ways new : List Way) (outcomes : List Told) (i : ℕ) (x : Told)
    (w : Way) → i < length outcomes → x ≡ get_or outcomes i x → new ≡ ways ++ w ∷ []
    → AreWays table ways (map outcome_told (take i outcomes)) → IsWay table w (outcome_told x)
    → AreWays table new (map outcome_told (take (i + 1) outcomes))
ways_step table ways new outcomes i x w low is more all last =
    subst (λ (ws : List Way). AreWays table ws (map outcome_told (take (i + 1) outcomes)))
    (sym more)
    (subst (λ (os : List Outcome). AreWays table (ways ++ w ∷ []) os)
    (sym (map_more outcome_told outcomes i x low))
    (ways_more table ways (map outcome_told (take i outcomes)) w
    (outcome_told (get_or outcomes i x)) all
    (subst (λ (y : Told). IsWay table w (outcome_told y)) is last)))

pub links_step : (S : System) (nodes : List Kept) (k : ℕ) (links new : List Links) (l : Links)
    (x : Kept) → k < length nodes → x ≡ get_or nodes k x → new ≡ links ++ l ∷ []
    → AreLinked S nodes k links → IsLinked S (map node_by nodes) (node_by x) l
    → AreLinked S nodes (k + 1) new
links_step S nodes k links new l x low is more are last =
    subst (λ (ls : List Links). AreLinked S nodes (k + 1) ls) (sym more)
    (linked_more S nodes k links l x low are
    (subst (λ (y : Kept). IsLinked S (map node_by nodes) (node_by y) l) is last))

pub graph_is : (S : System) (g : Graph)
    → list_all (λ t. is_covered (table_of g) (fresh_node (Owner.Task t)))
    (below (length S.tasks)) ≡ true
    → list_all (λ i. is_covered (table_of g) (fresh_node (Owner.Routine i)))
    (below (length S.routines)) ≡ true
    → AreLinked S g.nodes.items (length g.nodes.items) g.links.items → IsGraph S g
graph_is S g tasks routines are =
    record {
      fresh = and_from _ _ tasks routines;
      count = are.many;
      linked = are.each_linked;
    }
