-- The records of a tick tell one instruction, or once that nobody executed one.
use Rattle.std.proofs.Common.{◌≡◌, ℕ, zero, suc, Bool, true, false, cond, List, [], ◌∷◌, ◌++◌, length, refl, sym, ◌∙◌, ap, ap₂, arith}
use Rattle.std.specs.Prelude.{Option, Some, None}
use Rattle.std.specs.List.{flat_map}
use Rattle.std.specs.Option.{option_map}
use Rattle.std.proofs.lemmas.Grind.{flat_map-append}
use Rattle.std.proofs.lemmas.List.{length-append}
use Rattle.osek_base.specs.declared.arrivals.Arrival.{Arrival}
use Rattle.osek_base.specs.declared.executed.Executed.{Executed}
use Rattle.osek_base.specs.declared.ids.Owner.{Owner}
use Rattle.osek_base.specs.declared.status.Status.{Status}
use Rattle.osek_base.specs.declared.instr.Instr.{Instr}
use Rattle.osek_base.specs.declared.instr.Control.{Control}
use Rattle.osek_base.specs.declared.trace_event.Outcome.{Outcome}
use Rattle.osek_base.specs.declared.trace_event.Source.{Source}
use Rattle.osek_base.specs.declared.trace_event.TraceEvent.{TraceEvent}
use Rattle.osek_base.specs.Executed.{idle_or_executed}
use Rattle.osek_base.specs.Instruction.{Context}
use Rattle.osek_base.specs.System.{System, instruction_at}
use Rattle.osek_base.specs.State.{JobId, State, may_dispatch, same_id}
use Rattle.osek_base.specs.Alarm.{due_alarms, alarms_advanced}
use Rattle.osek_base.specs.Choice.{choice}
use Rattle.osek_base.specs.Reschedule.{hooked, id_of, switch_records, left_record, entered_record, switched, with_dispatch_of, reschedule}
use Rattle.osek_base.specs.Service.{Caller, JobCalls, RoutineCalls, NobodyCalls, service}
use Rattle.osek_base.specs.Tick.{at_values, error_record, alarm_acts, alarms_act, alarm_phase, arrival_phase, shutdown_record, executor, executed, caller_executes, execute_phase, before_execution, last_phase, tick}
use Rattle.osek_base.specs.Trace.{Run, all_activated, arriving, boot, one_more, run, starting_tasks}
use Rattle.law_runs.proofs.RunSteps.{one_more-going, one_more-over, run_suc}
use Rattle.law_blockers.specs.Steps.{record_at}
use Rattle.seen_ticks.specs.Observed.{executed_in}

-- what a record tells to be executed, or that nothing was
abbrev told_by : TraceEvent → List (Option Executed)
told_by (TraceEvent.Executed who place what outcome) = Some (record { owner = who; place = place; outcome = outcome }) ∷ []
told_by TraceEvent.Idle = None ∷ []
told_by _ = []

abbrev told : List TraceEvent → List (Option Executed)
told events = flat_map told_by events

told_append : (xs ys : List TraceEvent) → told (xs ++ ys) ≡ told xs ++ told ys
told_append xs ys = flat_map-append told_by xs ys

both_none : (xs ys : List TraceEvent) → told xs ≡ [] → told ys ≡ [] → told (xs ++ ys) ≡ []
both_none xs ys one two = told_append xs ys ∙ ap₂ (λ (u v : List (Option Executed)). u ++ v) one two

-- ---- the phases that tell nothing

hooked_none : (on : Bool) (e : TraceEvent) → told (e ∷ []) ≡ [] → told (hooked on e) ≡ []
hooked_none true e h = h
hooked_none false e h = refl

error_none : (S : System) (who : Source) (what : Instr) (status : Status) → told (error_record S who what status) ≡ []
error_none S who what Status.Ok = refl
error_none S who what Status.Access = hooked_none S.hooks.error (TraceEvent.Error who what Status.Access) refl
error_none S who what Status.CallLevel = hooked_none S.hooks.error (TraceEvent.Error who what Status.CallLevel) refl
error_none S who what Status.Id = hooked_none S.hooks.error (TraceEvent.Error who what Status.Id) refl
error_none S who what Status.Limit = hooked_none S.hooks.error (TraceEvent.Error who what Status.Limit) refl
error_none S who what Status.NoFunc = hooked_none S.hooks.error (TraceEvent.Error who what Status.NoFunc) refl
error_none S who what Status.Resource = hooked_none S.hooks.error (TraceEvent.Error who what Status.Resource) refl
error_none S who what Status.State = hooked_none S.hooks.error (TraceEvent.Error who what Status.State) refl
error_none S who what Status.Value = hooked_none S.hooks.error (TraceEvent.Error who what Status.Value) refl
error_none S who what Status.SysDisabled = hooked_none S.hooks.error (TraceEvent.Error who what Status.SysDisabled) refl

shutdown_none : (S : System) (control : Control ℕ) → told (shutdown_record S control) ≡ []
shutdown_none S (Control.ShutdownOs n) = hooked_none S.hooks.shutdown (TraceEvent.Shutdown n) refl
shutdown_none S _ = refl

alarms_none : (S : System) (due : List ℕ) (s : State) → told (alarms_act S due s).events ≡ []
alarms_none S [] s = refl
alarms_none S (a ∷ due) s =
    both_none (alarm_acts S a s).events (alarms_act S due (alarm_acts S a s).state).events (error_none S _ _ _)
    (alarms_none S due (alarm_acts S a s).state)

alarm_phase_none : (S : System) (s : State) → told (alarm_phase S s).events ≡ []
unfolding alarm_phase
alarm_phase_none S s = alarms_none S (due_alarms S s) (record s { alarms = alarms_advanced S s })

left_none : (S : System) (o : Option JobId) → told (left_record S o) ≡ []
left_none S None = refl
left_none S (Some old) = hooked_none S.hooks.post_task (TraceEvent.Post old.task) refl

entered_none : (S : System) (o : Option JobId) → told (entered_record S o) ≡ []
entered_none S None = refl
entered_none S (Some new) = hooked_none S.hooks.pre_task (TraceEvent.Pre new.task) refl

switch_none : (S : System) (o n : Option JobId) → told (switch_records S o n) ≡ []
switch_none S None None = refl
switch_none S None (Some new) = entered_none S (Some new)
switch_none S (Some old) None = left_none S (Some old)
switch_none S (Some old) (Some new) = go (same_id old new)
  where
    go : (b : Bool) → told (cond b [] (left_record S (Some old) ++ entered_record S (Some new))) ≡ []
    go true = refl
    go false = both_none (left_record S (Some old)) (entered_record S (Some new)) (left_none S (Some old)) (entered_none S (Some new))

reschedule_none : (S : System) (s : State) → told (reschedule S s).events ≡ []
unfolding reschedule
reschedule_none S s = go (may_dispatch s)
  where
    go : (b : Bool) → told (with_dispatch_of s (cond b (switched S (choice S s.jobs) s) (record { events = []; state = s }))).events ≡ []
    go true = switch_none S s.running (option_map id_of (choice S s.jobs))
    go false = refl

before_none : (S : System) (arrived : List ℕ) (s : State) → told (before_execution S arrived s).events ≡ []
before_none S arrived s =
    both_none (alarm_phase S s).events (reschedule S (arrival_phase arrived (alarm_phase S s).state)).events (alarm_phase_none S s)
    (reschedule_none S (arrival_phase arrived (alarm_phase S s).state))

last_none : (S : System) (s : State) → told (last_phase S s).events ≡ []
last_none S s = go s.over
  where
    go : (b : Bool) → told (cond b (record { events = []; state = s }) (reschedule S s)).events ≡ []
    go true = refl
    go false = reschedule_none S s

boot_none : (S : System) (mode : ℕ) → told (boot S mode).events ≡ []
unfolding boot
boot_none S mode =
    let started : State = all_activated S (starting_tasks S mode) _ in
    both_none (hooked S.hooks.startup TraceEvent.Startup) (reschedule S started).events
    (hooked_none S.hooks.startup TraceEvent.Startup refl) (reschedule_none S started)

-- ---- the one that tells

-- some records tell one thing
abbrev TellsOne : List TraceEvent → Type 0
TellsOne events = length (told events) ≡ 1

one_first : (x : TraceEvent) (rest : List TraceEvent) → TellsOne (x ∷ []) → told rest ≡ [] → TellsOne (x ∷ rest)
one_first x rest one none =
    ap (λ (v : List (Option Executed)). length v) (told_append (x ∷ []) rest ∙ ap (λ (v : List (Option Executed)). told (x ∷ []) ++ v) none)
    ∙ length-append (told (x ∷ [])) [] ∙ (omega (arith, one))

executed_one : (S : System) (who : Owner) (c : Caller) (x : Context) (what : Instr) (s : State) → TellsOne (executed S who c x what s).events
executed_one S who c x (Instr.Plain p) s = refl
executed_one S who c x (Instr.Service call) s =
    let reply = service S c s (at_values x call) in
    one_first (TraceEvent.Executed who x.place (Instr.Service call) (Outcome.Answer reply.status reply.results))
    (error_record S (Source.Owner who) (Instr.Service call) reply.status) refl
    (error_none S (Source.Owner who) (Instr.Service call) reply.status)
executed_one S who c x (Instr.Control control) s =
    one_first (TraceEvent.Executed who x.place (Instr.Control control) Outcome.Control) (shutdown_record S control) refl
    (shutdown_none S control)

caller_one : (S : System) (c : Caller) (s : State) → TellsOne (caller_executes S c s).events
caller_one S (JobCalls j) s =
    executed_one S (Owner.Task j.id.task) (JobCalls j) j.context (instruction_at S (Owner.Task j.id.task) j.context.place) s
caller_one S (RoutineCalls a) s =
    executed_one S (Owner.Routine a.routine) (RoutineCalls a) a.context
    (instruction_at S (Owner.Routine a.routine) a.context.place) s
caller_one S NobodyCalls s = refl

execute_one : (S : System) (s : State) → TellsOne (execute_phase S s).events
unfolding execute_phase
execute_one S s = caller_one S (executor s) s

tick_told : (S : System) (arrived : List ℕ) (s : State)
    → told (tick S arrived s).events ≡ told (execute_phase S (before_execution S arrived s).state).events ++ []
unfolding tick
tick_told S arrived s =
    let first : List TraceEvent = (before_execution S arrived s).events in
    let during : List TraceEvent = (execute_phase S (before_execution S arrived s).state).events in
    let last : List TraceEvent = (last_phase S (execute_phase S (before_execution S arrived s).state).state).events in
    told_append first (during ++ last)
    ∙ ap₂ (λ (u v : List (Option Executed)). u ++ v) (before_none S arrived s)
    (told_append during last
    ∙ ap (λ (v : List (Option Executed)). told during ++ v) (last_none S (execute_phase S (before_execution S arrived s).state).state))

tick_one : (S : System) (arrived : List ℕ) (s : State) → TellsOne (tick S arrived s).events
tick_one S arrived s =
    let one = execute_one S (before_execution S arrived s).state in
    ap (λ (v : List (Option Executed)). length v) (tick_told S arrived s)
    ∙ length-append (told (execute_phase S (before_execution S arrived s).state).events) [] ∙ omega (arith, one)

zero_none : (S : System) (mode : ℕ) (arrivals : List Arrival) → told (run S mode arrivals 0).unwritten ≡ []
unfolding run
zero_none S mode arrivals = boot_none S mode

more_none : (S : System) (arrivals : List Arrival) (r : Run) → told r.unwritten ≡ [] → told (one_more S arrivals r).unwritten ≡ []
more_none S arrivals r none = go r.state.over refl
  where
    go : (b : Bool) → r.state.over ≡ b → told (one_more S arrivals r).unwritten ≡ []
    go true over = ap (λ (q : Run). told q.unwritten) (one_more-over S arrivals r over) ∙ none
    go false on = ap (λ (q : Run). told q.unwritten) (one_more-going S arrivals r on)

unwritten_none : (S : System) (mode : ℕ) (arrivals : List Arrival) (n : ℕ) → told (run S mode arrivals n).unwritten ≡ []
unwritten_none S mode arrivals zero = zero_none S mode arrivals
unwritten_none S mode arrivals (suc n) =
    ap (λ (r : Run). told r.unwritten) (run_suc S mode arrivals n)
    ∙ more_none S arrivals (run S mode arrivals n) (unwritten_none S mode arrivals n)

record_one : (S : System) (mode : ℕ) (arrivals : List Arrival) (n : ℕ) → TellsOne (record_at S mode arrivals n)
record_one S mode arrivals n =
    let r : Run = run S mode arrivals n in
    ap (λ (v : List (Option Executed)). length v)
    (told_append r.unwritten (tick S (arriving arrivals r.state.tick) r.state).events
    ∙ ap (λ (v : List (Option Executed)). v ++ told (tick S (arriving arrivals r.state.tick) r.state).events) (unwritten_none S mode arrivals n))
    ∙ tick_one S (arriving arrivals r.state.tick) r.state

-- ---- what is told is what was executed

abbrev head : List (Option Executed) → Option Executed
head [] = None
head (e ∷ rest) = e

abbrev tail : List (Option Executed) → List (Option Executed)
tail [] = []
tail (e ∷ rest) = rest

none_in : (events : List TraceEvent) → told events ≡ [] → executed_in events ≡ None
none_in [] h = refl
none_in (TraceEvent.Executed who place what outcome ∷ rest) h = absurd (grind (arith, h))
none_in (TraceEvent.Idle ∷ rest) h = absurd (grind (arith, h))
none_in (_ ∷ rest) h = none_in rest h

one_in : (events : List TraceEvent) (e : Option Executed) → told events ≡ e ∷ [] → executed_in events ≡ e
one_in [] e h = absurd (grind (arith, h))
one_in (TraceEvent.Executed who place what outcome ∷ rest) e h = ap head h
one_in (TraceEvent.Idle ∷ rest) e h = none_in rest (ap tail h) ∙ ap head h
one_in (_ ∷ rest) e h = one_in rest e h

nothing : (xs : List (Option Executed)) → length xs ≡ 0 → xs ≡ []
nothing [] h = refl
nothing (x ∷ xs) h = absurd (omega (arith, h))

single : (xs : List (Option Executed)) → length xs ≡ 1 → xs ≡ head xs ∷ []
single [] h = absurd (omega (arith, h))
single (x ∷ xs) h = ap (λ (v : List (Option Executed)). x ∷ v) (nothing xs (omega (arith, h)))

-- a tick's records tell what its fifth phase executes
pub record_executed : (S : System) (mode : ℕ) (arrivals : List Arrival) (n : ℕ)
    → executed_in (record_at S mode arrivals n)
    ≡ executed_in (execute_phase S (before_execution S (arriving arrivals (run S mode arrivals n).state.tick) (run S mode arrivals n).state).state).events
record_executed S mode arrivals n =
    let r : Run = run S mode arrivals n in
    let arrived : List ℕ = arriving arrivals r.state.tick in
    let during : List TraceEvent = (execute_phase S (before_execution S arrived r.state).state).events in
    let one : told during ≡ head (told during) ∷ [] =
    single (told during) (execute_one S (before_execution S arrived r.state).state) in
    let all : told (record_at S mode arrivals n) ≡ head (told during) ∷ [] =
    told_append r.unwritten (tick S arrived r.state).events
    ∙ ap (λ (v : List (Option Executed)). v ++ told (tick S arrived r.state).events) (unwritten_none S mode arrivals n)
    ∙ tick_told S arrived r.state ∙ ap (λ (v : List (Option Executed)). v ++ []) one in
    one_in (record_at S mode arrivals n) (head (told during)) all ∙ sym (one_in during (head (told during)) one)

itself : (S : System) (e : Option Executed) → told (idle_or_executed S e ∷ []) ≡ e ∷ []
itself S None = refl
itself S (Some e) = refl

module _ (S : System) (before behind : List TraceEvent) (e : Option Executed) where
  parts : told (before ++ idle_or_executed S e ∷ behind) ≡ told before ++ e ∷ told behind
  parts =
      told_append before (idle_or_executed S e ∷ behind)
      ∙ ap (λ (v : List (Option Executed)). told before ++ v) (told_append (idle_or_executed S e ∷ []) behind
      ∙ ap (λ (v : List (Option Executed)). v ++ told behind) (itself S e))

  -- the record of a tick's instruction tells what was executed
  pub executed_told : (mode : ℕ) (arrivals : List Arrival) (n : ℕ)
      → before ++ idle_or_executed S e ∷ behind ≡ record_at S mode arrivals n
      → e ≡ executed_in (record_at S mode arrivals n)
  executed_told mode arrivals n h =
      let long = ap (λ (v : List (Option Executed)). length v) (sym parts ∙ ap told h) ∙ record_one S mode arrivals n in
      let sum = length-append (told before) (e ∷ told behind) in
      let first : told before ≡ [] = nothing (told before) (omega (arith, long, sum)) in
      let last : told behind ≡ [] = nothing (told behind) (omega (arith, long, sum)) in
      let one : told (record_at S mode arrivals n) ≡ e ∷ [] =
      sym (ap told h) ∙ parts ∙ ap₂ (λ (u v : List (Option Executed)). u ++ e ∷ v) first last in
      sym (one_in (record_at S mode arrivals n) e one)
