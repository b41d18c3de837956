-- OSEK/VDX OS: task management; interrupt processing. Where nothing happens until an alarm is due or an interrupt arrives.
use Rattle.std.specs.Prelude.{ℕ, suc, ◌+◌, ◌≡◌, false, [], ◌∷◌, None, length}
use Rattle.osek_base.specs.declared.trace_event.TraceEvent.{TraceEvent}
use Rattle.osek_base.specs.System.{System}
use Rattle.osek_base.specs.Ceiling.{top_priority}
use Rattle.osek_base.specs.Alarm.{due_alarms}
use Rattle.osek_base.specs.Tick.{routine_choice}
use Rattle.ready_queues.specs.QueueMoves.{highest}
use Rattle.law_kept.specs.Kept.{Kept}
use Rattle.law_kept.specs.KeptService.{bare}
use Rattle.law_kept.specs.KeptTick.{KeptStep, tick_in}

-- no ShutdownOS ended the run, no task runs and none is ready, and no routine is active or pending
pub record IsQuiet (S : System) (o : Kept) : Type 0 where
  pub on : o.over ≡ false
  pub nobody_runs : o.running ≡ None
  pub none_ended : o.gone ≡ false
  pub none_ready : highest (suc (top_priority S)) o.queues ≡ None
  pub no_routine : o.active ≡ None
  pub none_pending : routine_choice S (bare o) ≡ None

-- the same some ticks later
abbrev pub later : ℕ → Kept → Kept
later n o = record o { tick = o.tick + n }

-- a tick in which nobody executes, and which leaves all else as it was
abbrev pub idle_step : Kept → KeptStep
idle_step o = record { events = TraceEvent.Idle ∷ []; after = later 1 o }

-- ---- the law

-- where no alarm is due and no interrupt arrives, a tick of a quiet state is such a tick
abbrev pub QuietTicks : Type 0
QuietTicks =
    (S : System) (o : Kept) → IsQuiet S o → length o.alarms ≡ length S.alarms → due_alarms S (bare o) ≡ []
    → tick_in S [] o ≡ idle_step o
