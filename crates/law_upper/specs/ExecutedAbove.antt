-- Partitions. What the upper part executes is the same in systems that agree.
use Rattle.std.specs.Prelude.{ℕ, ◌≡◌, if◌then◌else◌, List, Option, Some, None}
use Rattle.std.specs.List.{filter_map}
use Rattle.osek_base.specs.declared.arrivals.Arrival.{Arrival}
use Rattle.osek_base.specs.declared.ids.Owner.{Owner}
use Rattle.osek_base.specs.declared.trace_event.TraceEvent.{TraceEvent}
use Rattle.osek_base.specs.System.{System}
use Rattle.osek_base.specs.Upper.{is_upper_owner}
use Rattle.osek_base.specs.Agree.{renumbered}
use Rattle.law_future.specs.Alike.{records_at}
use Rattle.law_future.specs.Incidents.{tells_limit}
use Rattle.law_upper.specs.Above.{IsUpperTask, IsThatOfTheUpperPart}

-- the record of an instruction that an upper owner executes, its operand by its number among what
-- is upper
abbrev pub upper_execution : System → ℕ → TraceEvent → Option TraceEvent
upper_execution S p (TraceEvent.Executed who place what outcome) =
    if is_upper_owner S p who then Some
    (TraceEvent.Executed who place (renumbered S p what) outcome)
    else None
upper_execution S p _ = None

abbrev pub upper_executions : System → ℕ → List TraceEvent → List TraceEvent
upper_executions S p events = filter_map (upper_execution S p) events

-- the owner whose activation of a task is answered E_OS_LIMIT, if a record tells that
abbrev pub refused_to : ℕ → TraceEvent → Option Owner
refused_to t (TraceEvent.Executed who place what outcome) =
    if tells_limit t (TraceEvent.Executed who place what outcome) then Some who else None
refused_to t _ = None

abbrev pub refusals_of : ℕ → List TraceEvent → List Owner
refusals_of t events = filter_map (refused_to t) events

-- in each mode and under the same arrivals, in every tick the same upper owner executes the same
-- instruction at the same place, with the same outcome, or none does; and the same activations of
-- upper tasks are refused, whoever asked for them
pub record ExecuteTheSame (S B : System) (p : ℕ) : Type 0 where
  pub executions : (mode : ℕ) (arrivals : List Arrival) (n : ℕ)
      → upper_executions S p (records_at S mode arrivals n)
      ≡ upper_executions B p (records_at B mode arrivals n)
  pub refusals : (mode : ℕ) (arrivals : List Arrival) (n t : ℕ) → IsUpperTask S p t
      → refusals_of t (records_at S mode arrivals n) ≡ refusals_of t (records_at B mode arrivals n)

abbrev pub ExecutionsAreTheSame : Type 0
ExecutionsAreTheSame = IsThatOfTheUpperPart ExecuteTheSame
