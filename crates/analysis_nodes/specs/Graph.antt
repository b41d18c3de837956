-- Graphs of nodes: each way on from a node is known by the numbers of nodes that cover it.
use Rattle.std.specs.Prelude.{ℕ, ◌≡◌, true, List, [], ◌∷◌, map, Option, Some, None, is_some, length, slice_get}
use Rattle.osek_base.specs.System.{System}
use Rattle.law_nodes.specs.Closed.{has_fresh}
use Rattle.law_nodes.specs.Nodes.{Node, Table, covers, woken_node}
use Rattle.analysis_nodes.specs.declared.graph.Graph.{Graph}
use Rattle.analysis_nodes.specs.declared.graph.Links.{Links}
use Rattle.analysis_nodes.specs.declared.graph.Way.{Way}
use Rattle.analysis_nodes.specs.declared.node.Node.{Node as Kept}
use Rattle.analysis_nodes.specs.Nodes.{node_by}
use Rattle.analysis_nodes.specs.Outcomes.{Outcome, outcomes}

abbrev pub table_of : Graph → Table
table_of g = map node_by g.nodes.items

-- the node of a number covers that one
pub record IsCoveredBy (table : Table) (number : ℕ) (n : Node) : Type 0 where
  pub node : Node
  pub stands : slice_get table number ≡ Some node
  pub covers_it : covers node n ≡ true

-- nodes of those numbers cover nodes, one by one
abbrev pub AreCoveredBy : Table → List ℕ → Table → Type 0
AreCoveredBy table [] [] = Unit {0}
AreCoveredBy table (number ∷ numbers) (n ∷ next) =
    IsCoveredBy table number n × AreCoveredBy table numbers next
AreCoveredBy table _ _ = ⊥

-- a way is that of an outcome
pub record IsWay (table : Table) (w : Way) (o : Outcome) : Type 0 where
  pub same_refusal : w.refusal ≡ o.refusal
  pub same_start : w.start ≡ o.start
  pub next_covered : AreCoveredBy table w.next.items o.next

abbrev pub AreWays : Table → List Way → List Outcome → Type 0
AreWays table [] [] = Unit {0}
AreWays table (w ∷ ways) (o ∷ others) = IsWay table w o × AreWays table ways others
AreWays table _ _ = ⊥

-- where a node waits, it is known where it goes on
abbrev pub IsWoken : Table → Option ℕ → Node → Type 0
IsWoken table None n = ⊥
IsWoken table (Some number) n = IsCoveredBy table number (woken_node n)

-- the links of a node: its ways are those of all its outcomes
pub record IsLinked (S : System) (table : Table) (n : Node) (l : Links) : Type 0 where
  pub ways_told : AreWays table l.ways.items (outcomes S n)
  pub woken_told : is_some n.waits_for ≡ true → IsWoken table l.woken n

-- each node has its links, by its number
pub record IsGraph (S : System) (g : Graph) : Type 0 where
  pub fresh : has_fresh S (table_of g) ≡ true
  pub count : length g.links.items ≡ length g.nodes.items
  pub linked : (number : ℕ) (n : Node) (l : Links) → slice_get (table_of g) number ≡ Some n
      → slice_get g.links.items number ≡ Some l → IsLinked S (table_of g) n l

-- so many nodes have their links, by their numbers
pub record AreLinked (S : System) (nodes : List Kept) (upto : ℕ) (links : List Links) : Type 0 where
  pub many : length links ≡ upto
  pub each_linked : (number : ℕ) (n : Node) (l : Links)
      → slice_get (map node_by nodes) number ≡ Some n → slice_get links number ≡ Some l
      → IsLinked S (map node_by nodes) n l
