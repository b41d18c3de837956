-- Nesting counts grow by one a tick at most.
use Rattle.std.proofs.Common.{◌≡◌, ℕ, zero, suc, ◌+◌, ◌-◌, ◌≤◌, Bool, true, false, cond, List, [], ◌∷◌, refl, arith}
use Rattle.osek_base.specs.declared.ids.Owner.{Owner}
use Rattle.osek_base.specs.declared.arrivals.Arrival.{Arrival}
use Rattle.osek_base.specs.Types.{ServiceCall}
use Rattle.osek_base.specs.declared.instr.Control.{Control}
use Rattle.osek_base.specs.declared.instr.Instr.{Instr}
use Rattle.osek_base.specs.System.{System, alarm}
use Rattle.osek_base.specs.Instruction.{Context}
use Rattle.osek_base.specs.State.{State, still}
use Rattle.osek_base.specs.Alarm.{due_alarms, alarms_advanced}
use Rattle.osek_base.specs.Activation.{activated}
use Rattle.osek_base.specs.Reschedule.{reschedule}
use Rattle.osek_base.specs.Service.{Caller, JobCalls, RoutineCalls, NobodyCalls, service, unasked_service, controlled}
use Rattle.osek_base.specs.Tick.{at_values, action_call, alarm_acts, alarms_act, alarm_phase, arrival_phase, start_phase, executed, caller_executes, executor, execute_phase, before_execution, last_phase, tick}
use Rattle.osek_base.specs.Trace.{all_activated, starting_tasks, starting_alarms, boot, Run, step_added, arriving, run}
use Rattle.law_kept.specs.Standing.{FewNested}

-- neither count is above n
record IsNested (n : ℕ) (s : State) : Type 0 where
  all : s.suspended_all ≤ n
  os : s.suspended_os ≤ n

-- the counts are those of another state
same_nested : (n : ℕ) (s e : State) → e.suspended_all ≡ s.suspended_all → e.suspended_os ≡ s.suspended_os
    → IsNested n s → IsNested n e
same_nested n s e all os nested = record {
  all = (let h = nested.all in omega (arith, h, all));
  os = (let h = nested.os in omega (arith, h, os));
}

later : (n : ℕ) (s : State) → IsNested n s → IsNested (n + 1) s
later n s nested = record {
  all = (let h = nested.all in omega (arith, h));
  os = (let h = nested.os in omega (arith, h));
}

module _ (S : System) (n : ℕ) where
  -- ---- before and after an instruction

  acts_nested : (s : State) (call : ServiceCall) → IsNested n s
      → IsNested n (unasked_service S NobodyCalls s call).state
  unfolding unasked_service
  acts_nested s call nested = same_nested n s (unasked_service S NobodyCalls s call).state refl refl nested

  alarms_nested : (due : List ℕ) (s : State) → IsNested n s → IsNested n (alarms_act S due s).state
  alarms_nested [] s nested = nested
  alarms_nested (a ∷ due) s nested =
      alarms_nested due (alarm_acts S a s).state (acts_nested s (action_call (alarm S a).action) nested)

  alarm_phase_nested : (s : State) → IsNested n s → IsNested n (alarm_phase S s).state
  unfolding alarm_phase
  alarm_phase_nested s nested =
      alarms_nested (due_alarms S s) (record s { alarms = alarms_advanced S s })
      (same_nested n s (record s { alarms = alarms_advanced S s }) refl refl nested)

  reschedule_nested : (s : State) → IsNested n s → IsNested n (reschedule S s).state
  unfolding reschedule
  reschedule_nested s nested = same_nested n s (reschedule S s).state refl refl nested

  start_nested : (s : State) → IsNested n s → IsNested n (start_phase S s)
  unfolding start_phase
  start_nested s nested = same_nested n s (start_phase S s) refl refl nested

  before_nested : (arrived : List ℕ) (s : State) → IsNested n s → IsNested n (before_execution S arrived s).state
  before_nested arrived s nested =
      let waked : IsNested n (arrival_phase arrived (alarm_phase S s).state) =
      same_nested n (alarm_phase S s).state (arrival_phase arrived (alarm_phase S s).state) refl refl
      (alarm_phase_nested s nested) in
      start_nested (reschedule S (arrival_phase arrived (alarm_phase S s).state)).state
      (reschedule_nested (arrival_phase arrived (alarm_phase S s).state) waked)

  last_nested : (s : State) → IsNested n s → IsNested n (last_phase S s).state
  last_nested s nested = go s.over
    where
      go : (b : Bool) → IsNested n (cond b (record { events = []; state = s }) (reschedule S s)).state
      go true = nested
      go false = reschedule_nested s nested

  -- ---- an instruction

  fewer : (a b : ℕ) → a ≤ b → a - 1 ≤ b + 1
  fewer a b h = omega (arith, h)

  controlled_nested : (control : Control ℕ) (s : State) → IsNested n s → IsNested (n + 1) (controlled control s)
  controlled_nested Control.DisableAllInterrupts s h = record { all = (later n s h).all; os = (later n s h).os }
  controlled_nested Control.EnableAllInterrupts s h = record { all = (later n s h).all; os = (later n s h).os }
  controlled_nested Control.SuspendAllInterrupts s h = record { all = (let k = h.all in omega (arith, k)); os = (later n s h).os }
  controlled_nested Control.ResumeAllInterrupts s h = record { all = fewer s.suspended_all n h.all; os = (later n s h).os }
  controlled_nested Control.SuspendOsInterrupts s h = record { all = (later n s h).all; os = (let k = h.os in omega (arith, k)) }
  controlled_nested Control.ResumeOsInterrupts s h = record { all = (later n s h).all; os = fewer s.suspended_os n h.os }
  controlled_nested (Control.ShutdownOs x) s h = record { all = (later n s h).all; os = (later n s h).os }
  controlled_nested Control.ReturnFromInterrupt s h = record { all = omega arith; os = omega arith }

  service_nested : (c : Caller) (call : ServiceCall) (s : State) → IsNested n s
      → IsNested (n + 1) (service S c s call).state
  unfolding service
  service_nested c call s nested = same_nested (n + 1) s (service S c s call).state refl refl (later n s nested)

  executed_nested : (who : Owner) (c : Caller) (x : Context) (what : Instr) (s : State) → IsNested n s
      → IsNested (n + 1) (executed S who c x what s).state
  executed_nested who c x (Instr.Plain p) s nested =
      same_nested (n + 1) s (executed S who c x (Instr.Plain p) s).state refl refl (later n s nested)
  executed_nested who c x (Instr.Service call) s nested =
      same_nested (n + 1) (service S c s (at_values x call)).state
      (executed S who c x (Instr.Service call) s).state refl refl (service_nested c (at_values x call) s nested)
  executed_nested who c x (Instr.Control control) s nested =
      same_nested (n + 1) (controlled control s) (executed S who c x (Instr.Control control) s).state refl refl
      (controlled_nested control s nested)

  caller_nested : (c : Caller) (s : State) → IsNested n s → IsNested (n + 1) (caller_executes S c s).state
  caller_nested (JobCalls j) s nested = executed_nested (Owner.Task j.id.task) (JobCalls j) j.context _ s nested
  caller_nested (RoutineCalls a) s nested =
      executed_nested (Owner.Routine a.routine) (RoutineCalls a) a.context _ s nested
  caller_nested NobodyCalls s nested = later n s nested

  execute_nested : (s : State) → IsNested n s → IsNested (n + 1) (execute_phase S s).state
  unfolding execute_phase
  execute_nested s nested = caller_nested (executor s) s nested

-- ---- a tick, boot, a run

tick_nested : (S : System) (n : ℕ) (arrived : List ℕ) (s : State) → IsNested n s
    → IsNested (n + 1) (tick S arrived s).after
unfolding tick
tick_nested S n arrived s nested =
    let there : State = (before_execution S arrived s).state in
    let done : State = (execute_phase S there).state in
    let last : IsNested (n + 1) (last_phase S done).state =
    last_nested S (n + 1) done (execute_nested S n there (before_nested S n arrived s nested)) in
    record { all = last.all; os = last.os }

activated_nested : (S : System) (n t : ℕ) (s : State) → IsNested n s → IsNested n (activated S t s)
unfolding activated
activated_nested S n t s nested = same_nested n s (activated S t s) refl refl nested

all_activated_nested : (S : System) (n : ℕ) (ts : List ℕ) (s : State) → IsNested n s
    → IsNested n (all_activated S ts s)
all_activated_nested S n [] s nested = nested
all_activated_nested S n (t ∷ ts) s nested =
    all_activated_nested S n ts (activated S t s) (activated_nested S n t s nested)

boot_nested : (S : System) (mode : ℕ) → IsNested 0 (boot S mode).state
unfolding boot
boot_nested S mode =
    let begun : State = record (still S) { alarms = starting_alarms S mode } in
    reschedule_nested S 0 (all_activated S (starting_tasks S mode) begun)
    (all_activated_nested S 0 (starting_tasks S mode) begun (record { all = omega arith; os = omega arith }))

-- one tick more, unless the run is over
abbrev more_at : System → List Arrival → Run → Bool → Run
more_at S arrivals r over =
    elim over [ true ↦ r | false ↦ step_added r (tick S (arriving arrivals r.state.tick) r.state) ]

more_nested : (S : System) (arrivals : List Arrival) (n : ℕ) (r : Run) (over : Bool) → IsNested n r.state
    → IsNested (n + 1) (more_at S arrivals r over).state
more_nested S arrivals n r true nested = later n r.state nested
more_nested S arrivals n r false nested = tick_nested S n (arriving arrivals r.state.tick) r.state nested

run_nested : (S : System) (mode : ℕ) (arrivals : List Arrival) (n : ℕ) → IsNested n (run S mode arrivals n).state
unfolding run
run_nested S mode arrivals zero = boot_nested S mode
run_nested S mode arrivals (suc n) =
    let more : IsNested (n + 1)
    (more_at S arrivals (run S mode arrivals n) (run S mode arrivals n).state.over).state =
    more_nested S arrivals n (run S mode arrivals n) (run S mode arrivals n).state.over
    (run_nested S mode arrivals n) in
    record { all = (let h = more.all in omega (arith, h)); os = (let h = more.os in omega (arith, h)) }

pub few_nested : FewNested
few_nested S mode arrivals n arrived proper =
    let nested = before_nested S n arrived (run S mode arrivals n).state (run_nested S mode arrivals n) in
    (nested.all, nested.os)
