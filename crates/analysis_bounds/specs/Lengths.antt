-- OSEK/VDX OS: interrupt processing, category 2. Lengths of nodes, number by number.
use Rattle.std.specs.Prelude.{ℕ, ◌+◌, ◌≡◌, ◌<◌, ◌≤◌, true, false, nat_le, List, [], ◌∷◌, Some, length, slice_get}
use Rattle.osek_base.specs.declared.limits.TheConstants.{REGISTERS}
use Rattle.osek_base.specs.System.{System}
use Rattle.law_windows.specs.Routines.{begun}
use Rattle.law_costs.specs.Left.{on}
use Rattle.law_nodes.specs.Nodes.{Node, Table}
use Rattle.law_analysis.specs.Lengths.{Lasts, Long, is_of_task}
use Rattle.analysis_nodes.specs.declared.graph.Graph.{Graph}
use Rattle.analysis_nodes.specs.declared.graph.Links.{Links}
use Rattle.analysis_nodes.specs.declared.graph.Way.{Way}
use Rattle.analysis_nodes.specs.declared.node.Node.{Node as Kept}
use Rattle.analysis_nodes.specs.Graph.{table_of}
use Rattle.analysis_nodes.specs.Nodes.{node_by}
use Rattle.analysis_bounds.specs.Checks.{begins}
use Rattle.analysis_bounds.specs.Levels.{numbered}

-- nodes with their lengths, one by one
abbrev pub long_by : Table → List ℕ → List Long
long_by (n ∷ table) (count ∷ lengths) = record { node = n; count = count } ∷ long_by table lengths
long_by _ _ = []

abbrev pub longs_of : Graph → List ℕ → List Long
longs_of g lengths = long_by (table_of g) lengths

-- ---- what is checked

-- the node of a number has one less at least
abbrev pub IsFollowed : List ℕ → ℕ → ℕ → Type 0
IsFollowed lengths count number = nat_le count (numbered lengths number + 1) ≡ true

-- .. of the first of some numbers
abbrev pub AreFollowed : List ℕ → ℕ → List ℕ → ℕ → Type 0
AreFollowed lengths count numbers upto =
    (place : ℕ) → place < upto → IsFollowed lengths count (numbered numbers place)

-- a way has steps, and all are followed
pub record GoesOn (lengths : List ℕ) (count : ℕ) (w : Way) : Type 0 where
  pub some : 1 ≤ length w.next.items
  pub all_next : AreFollowed lengths count w.next.items (length w.next.items)

-- .. the first of some ways
abbrev pub AllGoOn : List ℕ → ℕ → List Way → ℕ → Type 0
AllGoOn lengths count ways upto =
    (place : ℕ) → place < upto → (w : Way) → slice_get ways place ≡ Some w
    → GoesOn lengths count w

-- a routine at a node with such ways executes so many
abbrev pub IsLong : List ℕ → ℕ → Node → List Way → Type 0
IsLong lengths count n ways =
    is_of_task n.owner ≡ false → 1 < count → AllGoOn lengths count ways (length ways)

-- .. at each of the first nodes
abbrev pub NodeIsLong : Graph → List ℕ → ℕ → Type 0
NodeIsLong g lengths number =
    (n : Kept) (l : Links) → slice_get g.nodes.items number ≡ Some n
    → slice_get g.links.items number ≡ Some l
    → IsLong lengths (numbered lengths number) (node_by n) l.ways.items

abbrev pub NodesAreLong : Graph → List ℕ → ℕ → Type 0
NodesAreLong g lengths upto = (number : ℕ) → number < upto → NodeIsLong g lengths number

-- ---- what is known of routines

-- one may begin at a node that tells of all registers
pub record IsFresh (n : Node) : Type 0 where
  pub many : length n.registers ≡ REGISTERS
  pub may_begin : begins n ≡ true

-- by number, so many instructions each executes at least
abbrev pub AreLasting : System → List ℕ → Type 0
AreLasting S counts = (i : ℕ) → Lasts S (numbered counts i) on (begun i)
