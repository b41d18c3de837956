-- What an analysis tells of a system, figure by figure, where all of it is so.
use Rattle.std.specs.Prelude.{ℕ, suc, ◌+◌, ◌≡◌, ◌<◌, ◌≤◌, ◌⊎◌, Bool, true, false, Contains, List, Some, length}
use Rattle.std.specs.List.{list_any}
use Rattle.osek_base.specs.declared.arrivals.Arrival.{Arrival}
use Rattle.osek_base.specs.declared.ids.Owner.{Owner}
use Rattle.osek_base.specs.declared.instr.Control.{Control}
use Rattle.osek_base.specs.declared.instr.Instr.{Instr}
use Rattle.osek_base.specs.declared.status.Status.{Status}
use Rattle.osek_base.specs.Service.{may_take}
use Rattle.osek_base.specs.System.{System, activation_of, instruction_at}
use Rattle.osek_base.specs.Trace.{run}
use Rattle.osek_base.specs.Types.{ServiceCall}
use Rattle.arrival_rules.specs.declared.rule.ArrivalRule.{ArrivalRule}
use Rattle.arrival_rules.specs.Rules.{KeepRules}
use Rattle.law_future.specs.Spans.{resource_of}
use Rattle.seen_ticks.specs.declared.failures.Failure.{Failure}
use Rattle.view_figures.specs.FigureSums.{held_count}
use Rattle.view_measures.specs.declared.measure.Measure.{Measure}
use Rattle.view_measures.specs.Measures.{figure}
use Rattle.search_peaks.specs.Peaks.{Peaks, told}
use Rattle.law_bounds.specs.Ending.{EndsWithin}
use Rattle.law_windows.specs.Losses.{NoneIsLost}
use Rattle.law_windows.specs.Responses.{PendsBehind}
use Rattle.law_nodes.specs.Closed.{is_closed}
use Rattle.law_nodes.specs.Nodes.{Node, Table}
use Rattle.law_nodes.specs.Services.{answers}
use Rattle.law_analysis.specs.Refusing.{NeverRefused, NeverRefusedBy}

-- ---- of routines

-- whatever arrives that keeps the rules, no interrupt of a routine is pending for so many ticks
abbrev pub StartsBefore : System → ℕ → List ArrivalRule → ℕ → ℕ → Type 0
StartsBefore S mode rules most i =
    (arrivals : List Arrival) (n since : ℕ) → KeepRules S rules arrivals
    → (run S mode arrivals (suc n)).state.over ≡ false → since ≤ n
    → PendsBehind S mode arrivals i since n → suc n < since + most

-- and none of it is lost
abbrev pub LosesNone : System → ℕ → List ArrivalRule → ℕ → Type 0
LosesNone S mode rules i =
    (arrivals : List Arrival) → KeepRules S rules arrivals → NoneIsLost S mode arrivals i

-- ---- of nodes

-- whether who is at a node ends the run
abbrev pub is_shutdown : Instr → Bool
is_shutdown (Instr.Control (Control.ShutdownOs n)) = true
is_shutdown _ = false

abbrev pub may_end : System → Table → Bool
may_end S table = list_any (λ n. is_shutdown (instruction_at S n.owner n.place)) table

-- the errors of whom
abbrev pub errors_of : Owner → Peaks → ℕ
errors_of (Owner.Task k) peaks = told peaks (figure Measure.Errors k)
errors_of (Owner.Routine i) peaks = told peaks (figure Measure.RoutineErrors i)

abbrev pub failure_at : Node → Status → Failure
failure_at n e = record { owner = n.owner; place = n.place; status = e }

-- a refusal that a service may have at a node is told, and that its owner has one
pub record IsRefusalTold (peaks : Peaks) (n : Node) (e : Status) : Type 0 where
  pub service : Contains peaks.failures (failure_at n e)
  pub owner : 1 ≤ errors_of n.owner peaks

-- .. each that there may be at a node of a table
abbrev pub AreRefusalsTold : System → Table → Peaks → Type 0
AreRefusalsTold S table peaks =
    (n : Node) (call : ServiceCall) (e : Status) → Contains table n
    → instruction_at S n.owner n.place ≡ Instr.Service call → Contains (answers S n call) (Some e)
    → IsRefusalTold peaks n e

-- ---- all of it

-- a number is told below a cap, and no greater than another one
abbrev pub IsCovered : ℕ → ℕ → ℕ → Type 0
IsCovered cap number other = (number < cap) × (number ≤ other)

pub record AreAnalysed (S : System) (mode : ℕ) (rules : List ArrivalRule) (cap : ℕ) (table : Table)
    (peaks : Peaks) : Type 0 where
  pub closed : is_closed S table ≡ true
  -- each job ends or begins to wait within the greatest response of its task, if that is told
  pub responses : (k : ℕ) → k < length S.tasks → told peaks (figure Measure.Response k) < cap
      → EndsWithin S mode rules (told peaks (figure Measure.Response k)) k
  -- it is blocked for no longer than that
  pub blocked : (k : ℕ) → k < length S.tasks → told peaks (figure Measure.Blocked k) < cap
      → IsCovered cap (told peaks (figure Measure.Response k))
      (told peaks (figure Measure.Blocked k))
  -- and holds what it may get for no longer
  pub holds : (r k : ℕ) → r < held_count S → k < length S.tasks
      → told peaks (figure Measure.Hold r) < cap → may_take S k (resource_of S r) ≡ true
      → IsCovered cap (told peaks (figure Measure.Response k)) (told peaks (figure Measure.Hold r))
  -- an interrupt is pending for no longer than the greatest latency of its routine. The run may be
  -- over in the tick in which it has been pending for as long
  pub latencies : (i : ℕ) → i < length S.routines → told peaks (figure Measure.Latency i) < cap
      → StartsBefore S mode rules (told peaks (figure Measure.Latency i)) i
      ⊎ ((may_end S table ≡ false)
      × StartsBefore S mode rules (suc (told peaks (figure Measure.Latency i))) i)
  -- where a run may end, one that comes in the last tick may be pending in it
  pub endings : (i : ℕ) → i < length S.routines → told peaks (figure Measure.Latency i) < cap
      → may_end S table ≡ true → 1 ≤ told peaks (figure Measure.Latency i)
  pub losses : (i : ℕ) → i < length S.routines
      → LosesNone S mode rules i ⊎ (1 ≤ told peaks (figure Measure.Loss i))
  -- of what isn't looked at, what may always be
  pub jobs : (k : ℕ) → k < length S.tasks
      → activation_of S k ≤ told peaks (figure Measure.Jobs k)
  pub blockers : (k : ℕ) → k < length S.tasks → 1 ≤ told peaks (figure Measure.Blockers k)
  -- a task of which an activation is refused, and an alarm whose action is
  pub refusals : (k : ℕ) → k < length S.tasks
      → NeverRefused S mode rules k ⊎ (1 ≤ told peaks (figure Measure.Refusal k))
  pub actions : (a : ℕ) → a < length S.alarms
      → NeverRefusedBy S mode rules a ⊎ (1 ≤ told peaks (figure Measure.RefusedAction a))
  -- what nodes tell
  pub failures : AreRefusalsTold S table peaks
  pub shutdown : may_end S table ≡ true → 1 ≤ told peaks (figure Measure.Shutdown 0)
