-- OSEK/VDX OS: one tick, over what the code keeps.
use Rattle.std.specs.Prelude.{ℕ, ◌+◌, false, if◌then◌else◌, List, [], ◌∷◌, ◌++◌, Option, Some, None, slice_set, ◌≡◌}
use Rattle.std.specs.Option.{option_map}
use Rattle.osek_base.specs.declared.ids.Owner.{Owner}
use Rattle.osek_base.specs.declared.instr.Instr.{Instr}
use Rattle.osek_base.specs.declared.instr.Control.{Control}
use Rattle.osek_base.specs.Types.{ServiceCall, PlainInstr}
use Rattle.osek_base.specs.declared.trace_event.TraceEvent.{TraceEvent}
use Rattle.osek_base.specs.declared.trace_event.Outcome.{Outcome}
use Rattle.osek_base.specs.declared.trace_event.Source.{Source}
use Rattle.osek_base.specs.System.{System, alarm, instruction_at}
use Rattle.osek_base.specs.Instruction.{Context, Done, next, plain}
use Rattle.osek_base.specs.State.{Active, fresh_context, still, words_after}
use Rattle.osek_base.specs.Alarm.{due_alarms, alarms_advanced}
use Rattle.osek_base.specs.Service.{controlled}
use Rattle.osek_base.specs.Tick.{action_call, error_record, flagged, routine_choice, at_values, moved, answered, shutdown_record, Step, tick}
use Rattle.osek_base.specs.Reschedule.{hooked}
use Rattle.osek_base.specs.Trace.{starting_tasks, starting_alarms, boot, run}
use Rattle.osek_base.specs.Proper.{IsProper}
use Rattle.osek_base.specs.declared.arrivals.Arrival.{Arrival}
use Rattle.law_kept.specs.Kept.{Kept, kept}
use Rattle.law_kept.specs.Moves.{KeptRecorded, kept_recorded, activated_in, may_dispatch_in, rescheduled}
use Rattle.law_kept.specs.KeptService.{KeptCaller, ByTask, ByRoutine, ByNobody, KeptReply, bare, unasked_in, service_in, moved_in, caller_in}

abbrev pub and_then_in : KeptRecorded → (Kept → KeptRecorded) → KeptRecorded
and_then_in r f = let after = f r.state in record { events = r.events ++ after.events; state = after.state }

abbrev pub silent_in : Kept → KeptRecorded
silent_in o = record { events = []; state = o }

abbrev pub alarm_reply_in : System → ℕ → KeptReply → KeptRecorded
alarm_reply_in S a r = record { events = error_record S (Source.Alarm a) (Instr.Service (action_call (alarm S a).action)) r.status; state = r.state }

abbrev pub alarm_acts_in : System → ℕ → Kept → KeptRecorded
alarm_acts_in S a o = alarm_reply_in S a (unasked_in S ByNobody o (action_call (alarm S a).action))

abbrev pub alarms_act_in : System → List ℕ → Kept → KeptRecorded
alarms_act_in S [] o = silent_in o
alarms_act_in S (a ∷ rest) o = and_then_in (alarm_acts_in S a o) (alarms_act_in S rest)

-- the alarms that are due expire
abbrev pub advanced_in : System → Kept → Kept
advanced_in S o = record o { alarms = alarms_advanced S (bare o) }

unfoldable pub alarm_phase_in : System → Kept → KeptRecorded
alarm_phase_in S o = alarms_act_in S (due_alarms S (bare o)) (advanced_in S o)

abbrev pub arrival_phase_in : List ℕ → Kept → Kept
arrival_phase_in arrived o = record o { pending = flagged arrived o.pending }

abbrev pub routine_started_in : Option ℕ → Kept → Kept
routine_started_in None o = o
routine_started_in (Some i) o =
    record o { active = Some (record { routine = i; context = fresh_context }); pending = slice_set o.pending i false }

unfoldable pub start_phase_in : System → Kept → Kept
start_phase_in S o = if may_dispatch_in o then routine_started_in (routine_choice S (bare o)) o else o

abbrev pub with_context_in : KeptCaller → Context → Kept → Kept
with_context_in (ByTask t) x o = moved_in t x o
with_context_in ByRoutine x o = record o { active = option_map (moved x) o.active }
with_context_in ByNobody x o = o

-- the state after a service without a status
abbrev pub controlled_in : Control ℕ → Kept → Kept
controlled_in control o =
    let s = controlled control (bare o) in
    record o { active = s.active; disabled = s.disabled; suspended_all = s.suspended_all; suspended_os = s.suspended_os; over = s.over }

abbrev pub plain_done_in : Owner → KeptCaller → Context → PlainInstr → Kept → Done → KeptRecorded
plain_done_in who d x p o done =
    record {
      events = TraceEvent.Executed who x.place (Instr.Plain p) (Outcome.Plain done.effect) ∷ [];
      state = with_context_in d done.context (record o { words = words_after o.words who done.effect });
    }

abbrev pub service_done_in : System → Owner → KeptCaller → Context → ServiceCall → KeptReply → KeptRecorded
service_done_in S who d x call r =
    record {
      events =
          TraceEvent.Executed who x.place (Instr.Service call) (Outcome.Answer r.status r.results)
          ∷ error_record S (Source.Owner who) (Instr.Service call) r.status;
      state = with_context_in d (answered r.status r.results x) r.state;
    }

abbrev pub executed_in : System → Owner → KeptCaller → Context → Instr → Kept → KeptRecorded
executed_in S who d x (Instr.Plain p) o = plain_done_in who d x p o (plain p x (o.words who))
executed_in S who d x (Instr.Service call) o = service_done_in S who d x call (service_in S d o (at_values x call))
executed_in S who d x (Instr.Control control) o =
    record {
      events = TraceEvent.Executed who x.place (Instr.Control control) Outcome.Control ∷ shutdown_record S control;
      state = with_context_in d (next x) (controlled_in control o);
    }

-- an instruction of the active routine, else of the running task, else idle
abbrev pub routine_executes : System → Option Active → Kept → KeptRecorded
routine_executes S None o = record { events = TraceEvent.Idle ∷ []; state = o }
routine_executes S (Some a) o =
    executed_in S (Owner.Routine a.routine) ByRoutine a.context (instruction_at S (Owner.Routine a.routine) a.context.place) o

abbrev pub caller_executes_in : System → KeptCaller → Kept → KeptRecorded
caller_executes_in S (ByTask t) o =
    executed_in S (Owner.Task t) (ByTask t) (o.slots t).context (instruction_at S (Owner.Task t) (o.slots t).context.place) o
caller_executes_in S ByRoutine o = routine_executes S o.active o
caller_executes_in S ByNobody o = record { events = TraceEvent.Idle ∷ []; state = o }

unfoldable pub execute_phase_in : System → Kept → KeptRecorded
execute_phase_in S o = caller_executes_in S (caller_in o) o

pub record KeptStep : Type 0 where
  pub events : List TraceEvent
  pub after : Kept

abbrev pub before_execution_in : System → List ℕ → Kept → KeptRecorded
before_execution_in S arrived o =
    let dispatched = and_then_in (alarm_phase_in S o) (λ a. rescheduled S (arrival_phase_in arrived a)) in
    record { events = dispatched.events; state = start_phase_in S dispatched.state }

abbrev pub last_phase_in : System → Kept → KeptRecorded
last_phase_in S o = if o.over then silent_in o else rescheduled S o

unfoldable pub tick_in : System → List ℕ → Kept → KeptStep
tick_in S arrived o =
    let ready = before_execution_in S arrived o in
    let done = and_then_in (execute_phase_in S ready.state) (last_phase_in S) in
    let last = done.state in
    record { events = ready.events ++ done.events; after = record last { tick = last.tick + 1 } }

-- ---- boot

-- before anything starts
abbrev pub still_in : System → Kept
still_in S = kept S (still S)

-- and the alarms that start with the mode
abbrev pub begun_in : System → ℕ → Kept
begun_in S mode = record (still_in S) { alarms = starting_alarms S mode }

abbrev pub all_activated_in : System → List ℕ → Kept → Kept
all_activated_in S [] o = o
all_activated_in S (t ∷ ts) o = all_activated_in S ts (activated_in S t o)

unfoldable pub boot_in : System → ℕ → KeptRecorded
boot_in S mode =
    let started = rescheduled S (all_activated_in S (starting_tasks S mode) (begun_in S mode)) in
    record { events = hooked S.hooks.startup TraceEvent.Startup ++ started.events; state = started.state }

abbrev pub kept_step : System → Step → KeptStep
kept_step S t = record { events = t.events; after = kept S t.after }

-- ---- what holds of every run

-- boot, and each tick after each number of ticks
abbrev pub BootsAlike : Type 0
BootsAlike = (S : System) (mode : ℕ) → IsProper S → kept_recorded S (boot S mode) ≡ boot_in S mode

abbrev pub TicksAlike : Type 0
TicksAlike =
    (S : System) (mode : ℕ) (arrivals : List Arrival) (n : ℕ) (arrived : List ℕ) → IsProper S
    → kept_step S (tick S arrived (run S mode arrivals n).state) ≡ tick_in S arrived (kept S (run S mode arrivals n).state)
