-- OSEK/VDX OS: system services; the modelled processor. What a tick executes, and the record of it.
use Rattle.std.specs.Prelude.{◌<◌, Option, Some, None, length}
use Rattle.osek_base.specs.declared.trace_event.TraceEvent.{TraceEvent}
use Rattle.osek_base.specs.System.{System, instruction_at, program}
use Rattle.osek_base.specs.Separable.{IsOwner}
use Rattle.osek_base.specs.declared.executed.Executed.{Executed}

-- the instruction stands in its owner's program
pub record StandsIn (S : System) (executed : Executed) : Type 0 where
  pub owner : IsOwner S executed.owner
  pub place : executed.place < length (program S executed.owner)

-- the record of an instruction, which is the one at its place
abbrev pub executed_record : System → Executed → TraceEvent
executed_record S executed = TraceEvent.Executed executed.owner executed.place (instruction_at S executed.owner executed.place) executed.outcome

-- the record of what a tick executed; where nobody did, that of an idle tick
abbrev pub idle_or_executed : System → Option Executed → TraceEvent
idle_or_executed S None = TraceEvent.Idle
idle_or_executed S (Some executed) = executed_record S executed
