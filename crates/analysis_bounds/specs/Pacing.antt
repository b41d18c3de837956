-- How often alarms expire, as code keeps it.
use Rattle.std.specs.Prelude.{ℕ, ◌<◌, ◌≤◌, ◌≡◌, true, List, length, slice_get, slice_index_or, Some}
use Rattle.osek_base.specs.System.{System, alarm_start_in}
use Rattle.law_alarms.specs.Spaced.{most_in}
use Rattle.law_nodes.specs.Nodes.{Node}
use Rattle.law_nodes.specs.Setting.{are_set_slowly, node_sets_slowly, starts_slowly}
use Rattle.law_windows.specs.Coming.{Costs}
use Rattle.law_windows.specs.Expiring.{most_expiries}
use Rattle.analysis_nodes.specs.declared.graph.Graph.{Graph}
use Rattle.analysis_nodes.specs.declared.node.Node.{Node as Kept}
use Rattle.analysis_nodes.specs.Graph.{table_of}
use Rattle.analysis_nodes.specs.Nodes.{node_by}
use Rattle.analysis_bounds.specs.declared.expiring.Alarms.{Alarms}
use Rattle.analysis_bounds.specs.declared.pacing.Pace.{Pace}
use Rattle.analysis_bounds.specs.Levels.{numbered}
use Rattle.analysis_bounds.specs.Timing.{AreTimed}

-- how often at most in so many ticks
abbrev pub most_at : Pace → ℕ → ℕ
most_at Pace.Never count = 0
most_at Pace.Once count = 1
most_at (Pace.Each gap) count = most_in gap count

abbrev pub pace_in : List Pace → ℕ → Pace
pace_in paces a = slice_index_or paces a Pace.Never

-- so each alarm of the system expires
abbrev pub ArePaces : System → ℕ → List ℕ → List Pace → Type 0
ArePaces S mode least paces =
    (a : ℕ) (count : ℕ) → a < length S.alarms
    → most_at (pace_in paces a) count ≡ most_expiries S mode (numbered least) count a

-- ---- how soon they are set

-- who is at a node sets each alarm by so many counts at least, where that is more than one
abbrev pub NodeIsSlow : System → List ℕ → Node → Type 0
NodeIsSlow S least n =
    (a : ℕ) → 1 < numbered least a → node_sets_slowly S a (numbered least a) n ≡ true

-- .. at the first of some nodes
abbrev pub NodesAreSlow : System → Graph → List ℕ → ℕ → Type 0
NodesAreSlow S g least count =
    (number : ℕ) → number < count → (n : Kept) → slice_get g.nodes.items number ≡ Some n
    → NodeIsSlow S least (node_by n)

-- the first of all alarms are set by a count at least, and by boot to such a cycle
abbrev pub StartsAreSlow : System → ℕ → List ℕ → ℕ → Type 0
StartsAreSlow S mode least count =
    (a : ℕ) → a < count
    → (1 ≤ numbered least a) × (starts_slowly (numbered least a) (alarm_start_in S mode a) ≡ true)

-- alarms are set by so many counts at least, whatever their expiries cost
abbrev pub AreSlow : System → ℕ → Graph → List ℕ → Type 0
AreSlow S mode g least =
    (costs : Costs) → are_set_slowly S mode costs (table_of g) (numbered least) ≡ true

-- what is known of alarms
pub record AreKnown (S : System) (mode : ℕ) (g : Graph) (alarms : Alarms) : Type 0 where
  pub all_slow : AreSlow S mode g alarms.least.items
  pub all_paced : ArePaces S mode alarms.least.items alarms.paces.items
  pub all_timed : AreTimed S mode alarms.least.items alarms.timings.items
