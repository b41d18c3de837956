-- What the parts of a tick leave alone.
use Rattle.std.proofs.Common.{◌≡◌, ℕ, ◌+◌, List, [], ◌∷◌, refl, ◌∙◌, ap, cond}
use Rattle.std.specs.Prelude.{Bool, true, false}
use Rattle.osek_base.specs.Types.{Control, Instr, Owner}
use Rattle.osek_base.specs.System.{System}
use Rattle.osek_base.specs.Instruction.{Context}
use Rattle.osek_base.specs.State.{State}
use Rattle.osek_base.specs.Reschedule.{reschedule}
use Rattle.osek_base.specs.Service.{Caller, JobCalls, RoutineCalls, NobodyCalls, service, unasked_service, controlled}
use Rattle.osek_base.specs.Alarm.{due_alarms, alarms_advanced}
use Rattle.osek_base.specs.Tick.{alarms_act, alarm_acts, alarm_phase, start_phase, execute_phase, caller_executes, executor, executed, tick, before_execution, from_execution}

pub tick_reschedule : (S : System) (s : State) → (reschedule S s).state.tick ≡ s.tick
unfolding reschedule
tick_reschedule S s = refl

tick_alarms_act : (S : System) (due : List ℕ) (s : State) → (alarms_act S due s).state.tick ≡ s.tick
unfolding unasked_service
tick_alarms_act S [] s = refl
tick_alarms_act S (a ∷ due) s = tick_alarms_act S due (alarm_acts S a s).state

tick_controlled : (control : Control ℕ) (s : State) → (controlled control s).tick ≡ s.tick
tick_controlled Control.DisableAllInterrupts s = refl
tick_controlled _ s = refl

tick_executed : (S : System) (who : Owner) (c : Caller) (x : Context) (what : Instr) (s : State) → (executed S who c x what s).state.tick ≡ s.tick
unfolding service
tick_executed S who c x (Instr.Plain p) s = refl
tick_executed S who c x (Instr.Service call) s = refl
tick_executed S who c x (Instr.Control control) s = tick_controlled control s

tick_caller_executes : (S : System) (c : Caller) (s : State) → (caller_executes S c s).state.tick ≡ s.tick
tick_caller_executes S (JobCalls j) s = tick_executed S _ (JobCalls j) _ _ s
tick_caller_executes S (RoutineCalls a) s = tick_executed S _ (RoutineCalls a) _ _ s
tick_caller_executes S NobodyCalls s = refl

tick_execute_phase : (S : System) (s : State) → (execute_phase S s).state.tick ≡ s.tick
unfolding execute_phase
tick_execute_phase S s = tick_caller_executes S (executor s) s

tick_unless_over : (S : System) (over : Bool) (s : State)
    → (cond over (record { events = []; state = s }) (reschedule S s)).state.tick ≡ s.tick
tick_unless_over S true s = refl
tick_unless_over S false s = tick_reschedule S s

tick_from_execution : (S : System) (s : State) → (from_execution S s).state.tick ≡ s.tick
tick_from_execution S s =
    let done : State = (execute_phase S s).state in
    tick_unless_over S done.over done ∙ tick_execute_phase S s

tick_start : (S : System) (s : State) → (start_phase S s).tick ≡ s.tick
unfolding start_phase
tick_start S s = refl

tick_alarm_phase : (S : System) (s : State) → (alarm_phase S s).state.tick ≡ s.tick
unfolding alarm_phase
tick_alarm_phase S s = tick_alarms_act S (due_alarms S s) (record s { alarms = alarms_advanced S s })

tick_before_execution : (S : System) (arrived : List ℕ) (s : State) → (before_execution S arrived s).state.tick ≡ s.tick
tick_before_execution S arrived s = tick_start S _ ∙ tick_reschedule S _ ∙ tick_alarm_phase S s

-- a tick is one tick
pub tick_tick : (S : System) (arrived : List ℕ) (s : State) → (tick S arrived s).after.tick ≡ s.tick + 1
unfolding tick
tick_tick S arrived s =
    ap (λ n. n + 1) (tick_from_execution S (before_execution S arrived s).state ∙ tick_before_execution S arrived s)
