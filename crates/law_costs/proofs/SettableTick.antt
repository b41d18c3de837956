-- In each run no event is set that isn't settable.
use Rattle.std.proofs.Common.{◌≡◌, ℕ, zero, suc, Bool, true, false, cond, List, [], ◌∷◌, length, replicate, refl, sym, subst}
use Rattle.std.specs.Prelude.{slice_index}
use Rattle.osek_base.specs.declared.arrivals.Arrival.{Arrival}
use Rattle.osek_base.specs.declared.ids.Owner.{Owner}
use Rattle.osek_base.specs.declared.instr.Control.{Control}
use Rattle.osek_base.specs.declared.instr.Instr.{Instr}
use Rattle.osek_base.specs.Alarm.{alarms_advanced, due_alarms}
use Rattle.osek_base.specs.Instruction.{Context}
use Rattle.osek_base.specs.Proper.{IsProper}
use Rattle.osek_base.specs.Reschedule.{reschedule}
use Rattle.osek_base.specs.Service.{Caller, JobCalls, NobodyCalls, RoutineCalls, controlled}
use Rattle.osek_base.specs.State.{State, still}
use Rattle.osek_base.specs.System.{System, alarm, instruction_at}
use Rattle.osek_base.specs.Tick.{action_call, alarm_acts, alarm_phase, alarms_act, arrival_phase, at_values, before_execution, caller_executes, execute_phase, executed, executor, last_phase, silent, start_phase, tick}
use Rattle.osek_base.specs.Trace.{all_activated, arriving, boot, run, starting_alarms, starting_tasks}
use Rattle.law_runs.proofs.SingleTick.{every_run}
use Rattle.law_costs.specs.Known.{at_instruction}
use Rattle.law_costs.specs.Settable.{AreSettable, IsSettable, sets_for}
use Rattle.law_costs.proofs.InTicks.{at_is}
use Rattle.law_costs.proofs.Settable.{action_settable, activated_settable, instruction_settable, none_settable, same_sets, service_settable, unasked_settable}

module _ (S : System) where
  abbrev AllSettable : State → Type 0
  AllSettable s = AreSettable S s.masks

  -- ---- phases 1 to 4, and 6

  acts_settable : (due : List ℕ) (s : State) → AllSettable s
      → AllSettable (alarms_act S due s).state
  acts_settable [] s all = all
  acts_settable (a ∷ due) s all =
      acts_settable due (alarm_acts S a s).state
      (unasked_settable S NobodyCalls (action_call (alarm S a).action) s
      (λ t. action_settable S t a) all)

  alarms_settable : (s : State) → AllSettable s → AllSettable (alarm_phase S s).state
  unfolding alarm_phase
  alarms_settable s all =
      acts_settable (due_alarms S s) (record s { alarms = alarms_advanced S s }) all

  dispatched_settable : (s : State) → AllSettable s → AllSettable (reschedule S s).state
  unfolding reschedule
  dispatched_settable s all = all

  start_settable : (s : State) → AllSettable s → AllSettable (start_phase S s)
  unfolding start_phase
  start_settable s all = all

  pub before_settable : (arrived : List ℕ) (s : State) → AllSettable s
      → AllSettable (before_execution S arrived s).state
  before_settable arrived s all =
      start_settable (reschedule S (arrival_phase arrived (alarm_phase S s).state)).state
      (dispatched_settable (arrival_phase arrived (alarm_phase S s).state)
      (alarms_settable s all))

  last_settable : (s : State) → AllSettable s → AllSettable (last_phase S s).state
  last_settable s all = go s.over
    where
      go : (b : Bool) → AllSettable (cond b (silent s) (reschedule S s)).state
      go true = all
      go false = dispatched_settable s all

  -- ---- phase 5

  controlled_settable : (control : Control ℕ) (s : State) → AllSettable s
      → AllSettable (controlled control s)
  controlled_settable Control.DisableAllInterrupts s all = all
  controlled_settable _ s all = all

  executed_settable : (who : Owner) (c : Caller) (x : Context) (what : Instr) (s : State)
      → ((t : ℕ) → IsSettable S t (sets_for t what)) → AllSettable s
      → AllSettable (executed S who c x what s).state
  executed_settable who c x (Instr.Plain what) s sets all = all
  executed_settable who c x (Instr.Service call) s sets all =
      service_settable S c (at_values x call) s
      (λ t. subst (IsSettable S t) (sym (same_sets S t x call)) (sets t)) all
  executed_settable who c x (Instr.Control control) s sets all =
      controlled_settable control s all

  caller_settable : (c : Caller) (s : State) → AllSettable s
      → AllSettable (caller_executes S c s).state
  caller_settable (JobCalls j) s all =
      executed_settable (Owner.Task j.id.task) (JobCalls j) j.context
      (instruction_at S (Owner.Task j.id.task) j.context.place) s
      (λ t. instruction_settable S t (Owner.Task j.id.task) j.context.place) all
  caller_settable (RoutineCalls a) s all =
      executed_settable (Owner.Routine a.routine) (RoutineCalls a) a.context
      (instruction_at S (Owner.Routine a.routine) a.context.place) s
      (λ t. instruction_settable S t (Owner.Routine a.routine) a.context.place) all
  caller_settable NobodyCalls s all = all

  execute_settable : (s : State) → AllSettable s → AllSettable (execute_phase S s).state
  unfolding execute_phase
  execute_settable s all = caller_settable (executor s) s all

  -- ---- a run

  tick_settable : (arrived : List ℕ) (s : State) → AllSettable s
      → AllSettable (tick S arrived s).after
  unfolding tick
  tick_settable arrived s all =
      last_settable (execute_phase S (before_execution S arrived s).state).state
      (execute_settable (before_execution S arrived s).state (before_settable arrived s all))

  still_settable : AllSettable (still S)
  still_settable t = subst (IsSettable S t) (sym (zeros (length S.tasks) t)) (none_settable S t)
    where
      zeros : (n u : ℕ) → slice_index (replicate n 0) u ≡ 0
      zeros zero u = refl
      zeros (suc n) zero = refl
      zeros (suc n) (suc u) = zeros n u

  activated_all : (ts : List ℕ) (s : State) → AllSettable s → AllSettable (all_activated S ts s)
  activated_all [] s all = all
  activated_all (t ∷ ts) s all =
      activated_all ts _ (activated_settable S t s all)

  boot_settable : (mode : ℕ) → AllSettable (boot S mode).state
  unfolding boot
  boot_settable mode =
      dispatched_settable
      (all_activated S (starting_tasks S mode)
      (record (still S) { alarms = starting_alarms S mode }))
      (activated_all (starting_tasks S mode)
      (record (still S) { alarms = starting_alarms S mode }) still_settable)

  pub run_settable : (mode : ℕ) (arrivals : List Arrival) (n : ℕ)
      → AllSettable (run S mode arrivals n).state
  run_settable mode arrivals n =
      every_run S mode AllSettable (boot_settable mode)
      (λ arrived s going all. tick_settable arrived s all) arrivals n

-- so it is at an instruction
pub at_settable : (S : System) (proper : IsProper S) (mode : ℕ) (arrivals : List Arrival) (n : ℕ)
    → (run S mode arrivals n).state.over ≡ false
    → AreSettable S (at_instruction S mode arrivals n).masks
at_settable S proper mode arrivals n going =
    subst (AllSettable S) (at_is S proper mode arrivals n going)
    (before_settable S (arriving arrivals n) (run S mode arrivals n).state
    (run_settable S mode arrivals n))
