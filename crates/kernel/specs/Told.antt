-- OSEK/VDX OS: alarms. What a kernel tells of the alarms of the tick that it did last.
use Rattle.std.specs.Prelude.{ℕ, ◌≡◌, ◌≤◌, ◌+◌, List, length}
use Rattle.osek_base.specs.declared.arrivals.Arrival.{Arrival}
use Rattle.osek_base.specs.declared.status.Status.{Status}
use Rattle.osek_base.specs.declared.trace_event.TraceEvent.{TraceEvent}
use Rattle.osek_base.specs.System.{System}
use Rattle.osek_base.specs.Alarm.{due_alarms}
use Rattle.law_kept.specs.Kept.{Kept}
use Rattle.law_kept.specs.KeptTick.{alarm_acts_in}
use Rattle.law_kept.specs.KeptService.{bare}
use Rattle.seen_ticks.specs.Told.{acting_in, due_in, refused_by, refused_in}
use Rattle.kernel.specs.declared.acted.Acted.{Acted}
use Rattle.kernel.specs.Does.{Does}
use Rattle.kernel.specs.Processor.{Processor, picture, system_of}

-- the alarms that are due in a tick of a run, and those of them whose action is refused
abbrev pub acted_at : System → ℕ → List Arrival → ℕ → Acted
acted_at S mode arrivals t = record { due = due_in S mode arrivals t; refused = refused_in S mode arrivals t }

-- ---- the same over what is kept of a state

-- an alarm acts, by at most one record, and its action has that status
pub record Acts (a : ℕ) (old new : Processor) (before after : List TraceEvent) (answer : Status) : Type 0 where
  pub does : Does (λ S. alarm_acts_in S a) old new before after
  pub status : answer ≡ (acting_in (system_of old) a (picture old)).status
  pub few : length after ≤ length before + 1

abbrev pub acted_in : System → Kept → Acted
acted_in S o = record { due = due_alarms S (bare o); refused = refused_by S o }
