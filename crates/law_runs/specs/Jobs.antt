-- OSEK/VDX OS: task management. The jobs of a task, counted in the order in which they are made and end.
use Rattle.std.specs.Prelude.{ℕ, suc, ◌+◌, ◌≡◌, ◌<◌, ◌≤◌, Bool, true, false, ◌==◌, List, length, slice_index}
use Rattle.std.specs.List.{list_any}
use Rattle.osek_base.specs.declared.arrivals.Arrival.{Arrival}
use Rattle.osek_base.specs.declared.ids.Owner.{Owner}
use Rattle.osek_base.specs.declared.instr.Service.{Service}
use Rattle.osek_base.specs.declared.instr.Instr.{Instr}
use Rattle.osek_base.specs.declared.status.Status.{Status}
use Rattle.osek_base.specs.declared.trace_event.Outcome.{Outcome}
use Rattle.osek_base.specs.declared.trace_event.TraceEvent.{TraceEvent}
use Rattle.osek_base.specs.System.{System}
use Rattle.osek_base.specs.State.{jobs_of}
use Rattle.osek_base.specs.Tick.{tick}
use Rattle.osek_base.specs.Trace.{arriving, run}
use Rattle.osek_base.specs.Proper.{IsProper}

-- whether a record tells that a job of a task ends
abbrev pub is_end_of : ℕ → TraceEvent → Bool
is_end_of t (TraceEvent.Executed (Owner.Task u) place (Instr.Service Service.TerminateTask) (Outcome.Answer Status.Ok found)) = u == t
is_end_of t (TraceEvent.Executed (Owner.Task u) place (Instr.Service (Service.ChainTask next)) (Outcome.Answer Status.Ok found)) = u == t
is_end_of t _ = false

abbrev pub ends : ℕ → List TraceEvent → Bool
ends t events = list_any (is_end_of t) events

abbrev pub one_if : Bool → ℕ
one_if true = 1
one_if false = 0

-- how many jobs of a task were made before tick n, at boot too; how many of them are left; and how many ended
abbrev pub made_by : System → ℕ → ℕ → List Arrival → ℕ → ℕ
made_by S mode t arrivals n = slice_index (run S mode arrivals n).state.made t

abbrev pub left_after : System → ℕ → ℕ → List Arrival → ℕ → ℕ
left_after S mode t arrivals n = length (jobs_of t (run S mode arrivals n).state.jobs)

-- ---- the law

-- in a tick as many jobs of a task are made as are left more behind it, and one more where one ends
pub record IsBalanced (S : System) (mode t : ℕ) (arrivals : List Arrival) (n : ℕ) : Type 0 where
  pub more : made_by S mode t arrivals n ≤ made_by S mode t arrivals (suc n)
  pub even : made_by S mode t arrivals (suc n) + left_after S mode t arrivals n
      ≡ made_by S mode t arrivals n + left_after S mode t arrivals (suc n)
      + one_if (ends t (tick S (arriving arrivals n) (run S mode arrivals n).state).events)

abbrev pub AlwaysBalanced : Type 0
AlwaysBalanced =
    (S : System) (mode t : ℕ) (arrivals : List Arrival) (n : ℕ) → IsProper S → t < length S.tasks
    → (run S mode arrivals n).state.over ≡ false → IsBalanced S mode t arrivals n
