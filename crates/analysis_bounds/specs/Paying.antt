-- OSEK/VDX OS: alarms, counters and alarm management. Alarms that pay when they are set get no
-- cycle.
use Rattle.std.specs.Prelude.{ℕ, ◌≡◌, ◌<◌, ◌≤◌, true, List, Some, slice_get}
use Rattle.osek_base.specs.System.{System, alarm_start_in, instruction_at}
use Rattle.law_nodes.specs.Nodes.{Node}
use Rattle.law_nodes.specs.Setting.{sets_once, starts_once}
use Rattle.analysis_nodes.specs.declared.graph.Graph.{Graph}
use Rattle.analysis_nodes.specs.declared.node.Node.{Node as Kept}
use Rattle.analysis_nodes.specs.Nodes.{node_by}
use Rattle.analysis_bounds.specs.Levels.{numbered}

-- who is at a node sets none that pays to a cycle, by what each pays
abbrev pub NodeIsOnce : System → List ℕ → Node → Type 0
NodeIsOnce S alarms n =
    (a : ℕ) → 1 ≤ numbered alarms a
    → sets_once a n.registers (instruction_at S n.owner n.place) ≡ true

-- .. at the first nodes
abbrev pub NodesAreOnce : System → Graph → List ℕ → ℕ → Type 0
NodesAreOnce S g alarms count =
    (number : ℕ) → number < count → (n : Kept) → slice_get g.nodes.items number ≡ Some n
    → NodeIsOnce S alarms (node_by n)

-- .. boot, of the first alarms
abbrev pub StartsAreOnce : System → ℕ → List ℕ → ℕ → Type 0
StartsAreOnce S mode alarms count =
    (a : ℕ) → a < count → 1 ≤ numbered alarms a → starts_once (alarm_start_in S mode a) ≡ true
