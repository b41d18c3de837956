-- OSEK/VDX OS: task management. A refused activation, as a record tells it.
use Rattle.std.specs.Prelude.{ℕ, Bool, false, ◌==◌, Some}
use Rattle.osek_base.specs.declared.instr.Service.{Service}
use Rattle.osek_base.specs.declared.instr.Instr.{Instr}
use Rattle.osek_base.specs.declared.status.Status.{Status}
use Rattle.osek_base.specs.declared.trace_event.Outcome.{Outcome}
use Rattle.osek_base.specs.declared.trace_event.TraceEvent.{TraceEvent}

-- an activation of a task is answered E_OS_LIMIT
abbrev pub activates : ℕ → Instr → Bool
activates t (Instr.Service (Service.ActivateTask (Some u))) = u == t
activates t (Instr.Service (Service.ChainTask (Some u))) = u == t
activates t _ = false

abbrev pub tells_limit : ℕ → TraceEvent → Bool
tells_limit t (TraceEvent.Executed caller at what (Outcome.Answer Status.Limit found)) =
    activates t what
tells_limit t _ = false
