-- What is checked of all that is told, figure by figure.
use Rattle.std.specs.Prelude.{ℕ, suc, ◌+◌, ◌≡◌, ◌<◌, ◌≤◌, ◌⊎◌, Bool, true, false, not, ◌||◌, nat_le, nat_lt, Contains, List, Option, Some, None, length, slice_get}
use Rattle.osek_base.specs.declared.status.Status.{Status}
use Rattle.osek_base.specs.Service.{may_take}
use Rattle.osek_base.specs.System.{System, activation_of, instruction_at, priority_of}
use Rattle.arrival_rules.specs.declared.rule.ArrivalRule.{ArrivalRule}
use Rattle.arrival_rules.specs.Rules.{rule_at}
use Rattle.law_future.specs.Spans.{resource_of}
use Rattle.view_measures.specs.declared.measure.Measure.{Measure}
use Rattle.view_measures.specs.Measures.{figure}
use Rattle.search_peaks.specs.Peaks.{Peaks, told}
use Rattle.law_windows.specs.Losses.{KeepsApart}
use Rattle.law_windows.specs.Work.{goes_at}
use Rattle.law_nodes.specs.Nodes.{Node}
use Rattle.law_analysis.specs.Told.{IsRefusalTold, is_shutdown}
use Rattle.analysis_nodes.specs.declared.graph.Graph.{Graph}
use Rattle.analysis_nodes.specs.declared.graph.Links.{Links}
use Rattle.analysis_nodes.specs.declared.graph.Way.{Way}
use Rattle.analysis_nodes.specs.declared.node.Node.{Node as Kept}
use Rattle.analysis_nodes.specs.Nodes.{node_by}
use Rattle.analysis_bounds.specs.declared.levels.TheConstants.{CAP}
use Rattle.analysis_bounds.specs.Levels.{numbered}

-- whether a number isn't told, or is no less than another one
abbrev pub is_no_less : ℕ → ℕ → Bool
is_no_less number other = not (nat_lt number CAP) || nat_le other number

-- ---- tasks

-- the ticks of windows of a task's level, if they are below the cap
abbrev pub IsResponse : System → List ℕ → ℕ → ℕ → Type 0
IsResponse S mosts k response =
    response < CAP
    → (priority_of S k < length mosts) × (numbered mosts (priority_of S k) ≡ response)

-- no less is told than those
abbrev pub HasResponse : System → List ℕ → ℕ → ℕ → Type 0
HasResponse S mosts k number =
    number < CAP
    → (response : ℕ) × (response ≤ number) × (response < CAP) × IsResponse S mosts k response

pub record TimesAreTold (S : System) (peaks : Peaks) (mosts : List ℕ) (k : ℕ) : Type 0 where
  pub response : HasResponse S mosts k (told peaks (figure Measure.Response k))
  pub blocked : is_no_less (told peaks (figure Measure.Blocked k))
      (told peaks (figure Measure.Response k)) ≡ true

pub record JobsAreTold (S : System) (peaks : Peaks) (k : ℕ) : Type 0 where
  pub jobs : activation_of S k ≤ told peaks (figure Measure.Jobs k)
  pub blockers : 1 ≤ told peaks (figure Measure.Blockers k)

abbrev pub TasksAreTold : System → Peaks → List ℕ → ℕ → Type 0
TasksAreTold S peaks mosts count =
    (k : ℕ) → k < count → TimesAreTold S peaks mosts k × JobsAreTold S peaks k

-- ---- resources

-- no less is told of a resource than of each of the first tasks that may take it
abbrev pub HoldIsTold : System → Peaks → ℕ → ℕ → Type 0
HoldIsTold S peaks r count =
    (k : ℕ) → k < count → may_take S k (resource_of S r) ≡ true
    → is_no_less (told peaks (figure Measure.Hold r)) (told peaks (figure Measure.Response k)) ≡ true

abbrev pub HoldsAreTold : System → Peaks → ℕ → Type 0
HoldsAreTold S peaks count = (r : ℕ) → r < count → HoldIsTold S peaks r (length S.tasks)

-- ---- the end

abbrev pub EndIsTold : Peaks → Bool → Type 0
EndIsTold peaks over = over ≡ true → 1 ≤ told peaks (figure Measure.Shutdown 0)

-- whether who is at a node ends the run
abbrev pub ends : System → Node → Bool
ends S n = is_shutdown (instruction_at S n.owner n.place)

-- at none of the first nodes
abbrev pub NoneEnds : System → Graph → ℕ → Type 0
NoneEnds S g count =
    (number : ℕ) → number < count → (n : Kept) → slice_get g.nodes.items number ≡ Some n
    → ends S (node_by n) ≡ false

-- ---- routines

-- below the cap it is that of a level of the routine
abbrev pub IsSomeMost : System → List ℕ → ℕ → ℕ → Type 0
IsSomeMost S mosts i most =
    most < CAP
    → (p : ℕ) × (p < length mosts) × (numbered mosts p ≡ most) × (goes_at S p i ≡ true)

-- no less is told than that, or where no run ends, than that less what the routine itself executes
abbrev pub IsSoonTold : Peaks → ℕ → Bool → ℕ → ℕ → Type 0
IsSoonTold peaks most over count i =
    told peaks (figure Measure.Latency i) < CAP
    → (most ≤ told peaks (figure Measure.Latency i))
    ⊎ ((over ≡ false) × (most < CAP) × (most ≤ told peaks (figure Measure.Latency i) + count))

-- .. and where a run may end, a tick at least
pub record LatencyIsTold (peaks : Peaks) (most : ℕ) (over : Bool) (count i : ℕ) : Type 0 where
  pub soon : IsSoonTold peaks most over count i
  pub ending : over ≡ true → 1 ≤ told peaks (figure Measure.Latency i)

-- a rule keeps interrupts of a routine so many ticks apart
abbrev pub KeepsRoutineApart : ArrivalRule → ℕ → ℕ → Type 0
KeepsRoutineApart rule i most = (rule.routine ≡ i) × KeepsApart rule most

abbrev pub AreKeptApart : List ArrivalRule → ℕ → ℕ → Type 0
AreKeptApart rules i most =
    (n : ℕ) × (rule : ArrivalRule) × (slice_get rules n ≡ Some rule)
    × KeepsRoutineApart rule i most

abbrev pub LossIsTold : Peaks → List ArrivalRule → ℕ → ℕ → Type 0
LossIsTold peaks rules most i =
    (1 ≤ told peaks (figure Measure.Loss i)) ⊎ ((most < CAP) × AreKeptApart rules i most)

-- .. by one of its levels
pub record RoutineIsTold (S : System) (rules : List ArrivalRule) (peaks : Peaks) (mosts : List ℕ)
    (over : Bool) (count i : ℕ) : Type 0 where
  pub most : ℕ
  pub of_level : IsSomeMost S mosts i most
  pub latency : LatencyIsTold peaks most over count i
  pub loss : LossIsTold peaks rules most i

abbrev pub RoutinesAreTold : System → List ArrivalRule → Peaks → List ℕ → Bool → List ℕ → ℕ → Type 0
RoutinesAreTold S rules peaks mosts over counts upto =
    (i : ℕ) → i < upto → RoutineIsTold S rules peaks mosts over (numbered counts i) i

-- ---- nodes

-- the refusal of a way is told, if it is one
abbrev pub WayIsTold : Peaks → Node → Way → Type 0
WayIsTold peaks n w = (e : Status) → w.refusal ≡ Some e → IsRefusalTold peaks n e

-- .. of the first ways of a node
abbrev pub NodeIsTold : Peaks → Node → List Way → ℕ → Type 0
NodeIsTold peaks n ways count =
    (place : ℕ) → place < count → (w : Way) → slice_get ways place ≡ Some w → WayIsTold peaks n w

-- .. of the node of a number
abbrev pub IsToldAt : Graph → Peaks → ℕ → Type 0
IsToldAt g peaks number =
    (n : Kept) (l : Links) → slice_get g.nodes.items number ≡ Some n
    → slice_get g.links.items number ≡ Some l
    → NodeIsTold peaks (node_by n) l.ways.items (length l.ways.items)

-- .. of the first nodes
abbrev pub NodesAreTold : Graph → Peaks → ℕ → Type 0
NodesAreTold g peaks count = (number : ℕ) → number < count → IsToldAt g peaks number
