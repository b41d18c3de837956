-- Which phases record an instruction: the execute phase alone.
use Rattle.std.proofs.Common.{◌≡◌, ℕ, zero, suc, ◌<◌, Bool, true, false, cond, List, [], ◌∷◌, ◌++◌, length, refl, subst, arith}
use Rattle.std.specs.Prelude.{Option, Some, None, slice_index_or}
use Rattle.std.specs.List.{AllByRecursion, Contains}
use Rattle.std.specs.Option.{option_map}
use Rattle.osek_base.specs.declared.status.Status.{Status}
use Rattle.osek_base.specs.declared.instr.Instr.{Instr}
use Rattle.osek_base.specs.declared.instr.Control.{Control}
use Rattle.osek_base.specs.declared.trace_event.Source.{Source}
use Rattle.osek_base.specs.declared.trace_event.TraceEvent.{TraceEvent}
use Rattle.osek_base.specs.System.{System}
use Rattle.osek_base.specs.State.{JobId, State, may_dispatch, same_id}
use Rattle.osek_base.specs.Alarm.{due_alarms, alarms_advanced}
use Rattle.osek_base.specs.Choice.{choice}
use Rattle.osek_base.specs.Reschedule.{hooked, id_of, switch_records, left_record, entered_record, switched, with_dispatch_of, reschedule}
use Rattle.osek_base.specs.Tick.{error_record, alarm_acts, alarms_act, alarm_phase, arrival_phase, shutdown_record, before_execution, last_phase}
use Rattle.osek_base.specs.Trace.{boot, all_activated, starting_tasks}
use Rattle.law_runs.proofs.Lists.{all_append}

abbrev pub is_executed : TraceEvent → Bool
is_executed (TraceEvent.Executed who place what outcome) = true
is_executed _ = false

-- none of the records is of an instruction
abbrev pub NoneExecuted : List TraceEvent → Type 0
NoneExecuted events = AllByRecursion (λ e. is_executed e ≡ false) events

pub none_append : (xs ys : List TraceEvent) → NoneExecuted xs → NoneExecuted ys → NoneExecuted (xs ++ ys)
none_append xs ys f g = all_append (λ e. is_executed e ≡ false) xs ys f g

none_hooked : (on : Bool) (e : TraceEvent) → is_executed e ≡ false → NoneExecuted (hooked on e)
none_hooked true e h = (h, tt)
none_hooked false e h = tt

pub none_error : (S : System) (who : Source) (what : Instr) (status : Status) → NoneExecuted (error_record S who what status)
none_error S who what Status.Ok = tt
none_error S who what Status.Access = none_hooked S.hooks.error (TraceEvent.Error who what Status.Access) refl
none_error S who what Status.CallLevel = none_hooked S.hooks.error (TraceEvent.Error who what Status.CallLevel) refl
none_error S who what Status.Id = none_hooked S.hooks.error (TraceEvent.Error who what Status.Id) refl
none_error S who what Status.Limit = none_hooked S.hooks.error (TraceEvent.Error who what Status.Limit) refl
none_error S who what Status.NoFunc = none_hooked S.hooks.error (TraceEvent.Error who what Status.NoFunc) refl
none_error S who what Status.Resource = none_hooked S.hooks.error (TraceEvent.Error who what Status.Resource) refl
none_error S who what Status.State = none_hooked S.hooks.error (TraceEvent.Error who what Status.State) refl
none_error S who what Status.Value = none_hooked S.hooks.error (TraceEvent.Error who what Status.Value) refl
none_error S who what Status.SysDisabled = none_hooked S.hooks.error (TraceEvent.Error who what Status.SysDisabled) refl

pub none_shutdown : (S : System) (control : Control ℕ) → NoneExecuted (shutdown_record S control)
none_shutdown S (Control.ShutdownOs n) = none_hooked S.hooks.shutdown (TraceEvent.Shutdown n) refl
none_shutdown S _ = tt

none_alarms : (S : System) (due : List ℕ) (s : State) → NoneExecuted (alarms_act S due s).events
none_alarms S [] s = tt
none_alarms S (a ∷ due) s =
    none_append (alarm_acts S a s).events (alarms_act S due (alarm_acts S a s).state).events (none_error S _ _ _) (none_alarms S due (alarm_acts S a s).state)

none_alarm_phase : (S : System) (s : State) → NoneExecuted (alarm_phase S s).events
unfolding alarm_phase
none_alarm_phase S s = none_alarms S (due_alarms S s) (record s { alarms = alarms_advanced S s })

none_left : (S : System) (o : Option JobId) → NoneExecuted (left_record S o)
none_left S None = tt
none_left S (Some old) = none_hooked S.hooks.post_task (TraceEvent.Post old.task) refl

none_entered : (S : System) (o : Option JobId) → NoneExecuted (entered_record S o)
none_entered S None = tt
none_entered S (Some new) = none_hooked S.hooks.pre_task (TraceEvent.Pre new.task) refl

none_switch : (S : System) (o n : Option JobId) → NoneExecuted (switch_records S o n)
none_switch S None None = tt
none_switch S None (Some new) = none_entered S (Some new)
none_switch S (Some old) None = none_left S (Some old)
none_switch S (Some old) (Some new) = go (same_id old new)
  where
    go : (b : Bool) → NoneExecuted (cond b [] (left_record S (Some old) ++ entered_record S (Some new)))
    go true = tt
    go false = none_append (left_record S (Some old)) (entered_record S (Some new)) (none_left S (Some old)) (none_entered S (Some new))

pub none_reschedule : (S : System) (s : State) → NoneExecuted (reschedule S s).events
unfolding reschedule
none_reschedule S s = go (may_dispatch s)
  where
    go : (b : Bool) → NoneExecuted (with_dispatch_of s (cond b (switched S (choice S s.jobs) s) (record { events = []; state = s }))).events
    go true = none_switch S s.running (option_map id_of (choice S s.jobs))
    go false = tt

pub none_before : (S : System) (arrived : List ℕ) (s : State) → NoneExecuted (before_execution S arrived s).events
none_before S arrived s =
    none_append (alarm_phase S s).events (reschedule S (arrival_phase arrived (alarm_phase S s).state)).events (none_alarm_phase S s)
    (none_reschedule S (arrival_phase arrived (alarm_phase S s).state))

pub none_last : (S : System) (s : State) → NoneExecuted (last_phase S s).events
none_last S s = go s.over
  where
    go : (b : Bool) → NoneExecuted (cond b (record { events = []; state = s }) (reschedule S s)).events
    go true = tt
    go false = none_reschedule S s

pub none_boot : (S : System) (mode : ℕ) → NoneExecuted (boot S mode).events
unfolding boot
none_boot S mode =
    let started : State = all_activated S (starting_tasks S mode) _ in
    none_append (hooked S.hooks.startup TraceEvent.Startup) (reschedule S started).events (none_hooked S.hooks.startup TraceEvent.Startup refl) (none_reschedule S started)

-- ---- by place

-- what every element has, an element has
pub contains_all : {X : Type 0} (P : X → Type 0) (xs : List X) (x : X) → AllByRecursion P xs → Contains xs x → P x
contains_all P xs x all c = go xs c.0 all c.1 c.2
  where
    go : (ys : List _) (k : ℕ) → AllByRecursion P ys → k < length ys → slice_index_or ys k x ≡ x → P x
    go [] k all less e = absurd (omega arith)
    go (y ∷ ys) zero all less e = subst P e all.0
    go (y ∷ ys) (suc k) all less e = go ys k all.1 (omega arith) e
