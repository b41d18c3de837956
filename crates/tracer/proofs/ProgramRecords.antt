-- Each instruction that a run records stands at its place of its owner's program.
use Rattle.std.proofs.Common.{◌≡◌, ℕ, zero, suc, Bool, true, false, cond, List, [], ◌∷◌, Option, Some, None, refl, subst, arith}
use Rattle.std.specs.List.{AllByRecursion, cons_option}
use Rattle.osek_base.specs.declared.arrivals.Arrival.{Arrival}
use Rattle.osek_base.specs.declared.ids.Owner.{Owner}
use Rattle.osek_base.specs.declared.instr.Instr.{Instr}
use Rattle.osek_base.specs.declared.trace_event.Source.{Source}
use Rattle.osek_base.specs.declared.trace_event.TraceEvent.{TraceEvent}
use Rattle.osek_base.specs.Instruction.{Context}
use Rattle.osek_base.specs.State.{State}
use Rattle.osek_base.specs.Service.{Caller, JobCalls, RoutineCalls, NobodyCalls, service}
use Rattle.osek_base.specs.System.{System, instruction_at}
use Rattle.osek_base.specs.Tick.{at_values, executor, executed, caller_executes, execute_phase, error_record, shutdown_record, before_execution, from_execution, last_phase, tick}
use Rattle.osek_base.specs.Trace.{Run, run, arriving, step_added}
use Rattle.law_runs.proofs.Lists.{clash, some_inside, all_weaker, all_append}
use Rattle.law_runs.proofs.Records.{is_executed, NoneExecuted, none_error, none_shutdown, none_before, none_last, none_boot}
use Rattle.law_blockers.specs.Steps.{record_at}
use Rattle.osek_base.specs.Upper.{is_upper_task, is_upper_owner}
use Rattle.osek_base.specs.View.{is_upper_source, shown, view_records}
use Rattle.tracer.specs.declared.shown.Shown.{Shown}
use Rattle.trace_lines.specs.Programs.{IsOfProgram}
use Rattle.tracer.specs.Shown.{records_shown}

module _ (S : System) where
  -- a record of no instruction
  other_record : (e : TraceEvent) → is_executed e ≡ false → IsOfProgram S e
  other_record TraceEvent.Startup h = tt
  other_record (TraceEvent.Pre t) h = tt
  other_record (TraceEvent.Post t) h = tt
  other_record (TraceEvent.Executed who place what outcome) h = clash h
  other_record TraceEvent.Idle h = tt
  other_record TraceEvent.Other h = tt
  other_record (TraceEvent.Error who what answer) h = tt
  other_record (TraceEvent.Shutdown n) h = tt

  others : (events : List TraceEvent) → NoneExecuted events → AllByRecursion (IsOfProgram S) events
  others events none = all_weaker (λ e. is_executed e ≡ false) (IsOfProgram S) events other_record none

  executed_listed : (who : Owner) (c : Caller) (x : Context) (what : Instr) (s : State) → what ≡ instruction_at S who x.place
      → AllByRecursion (IsOfProgram S) (executed S who c x what s).events
  executed_listed who c x (Instr.Plain p) s is = (is, tt)
  executed_listed who c x (Instr.Service call) s is =
      let status = (service S c s (at_values x call)).status in
      (is, others (error_record S (Source.Owner who) (Instr.Service call) status) (none_error S (Source.Owner who) (Instr.Service call) status))
  executed_listed who c x (Instr.Control control) s is = (is, others (shutdown_record S control) (none_shutdown S control))

  caller_listed : (c : Caller) (s : State) → AllByRecursion (IsOfProgram S) (caller_executes S c s).events
  caller_listed (JobCalls j) s = executed_listed (Owner.Task j.id.task) (JobCalls j) j.context _ s refl
  caller_listed (RoutineCalls a) s = executed_listed (Owner.Routine a.routine) (RoutineCalls a) a.context _ s refl
  caller_listed NobodyCalls s = (tt, tt)

  execute_listed : (s : State) → AllByRecursion (IsOfProgram S) (execute_phase S s).events
  unfolding execute_phase
  execute_listed s = caller_listed (executor s) s

  tick_listed : (arrived : List ℕ) (s : State) → AllByRecursion (IsOfProgram S) (tick S arrived s).events
  unfolding tick
  tick_listed arrived s =
      let ready : State = (before_execution S arrived s).state in
      let after : State = (execute_phase S ready).state in
      all_append (IsOfProgram S) (before_execution S arrived s).events (from_execution S ready).events
      (others (before_execution S arrived s).events (none_before S arrived s))
      (all_append (IsOfProgram S) (execute_phase S ready).events (last_phase S after).events (execute_listed ready)
      (others (last_phase S after).events (none_last S after)))

  -- what boot leaves for the first tick has no instruction, and later nothing is left
  abbrev added : List Arrival → Run → Bool → Run
  added arrivals r over = elim over [ true ↦ r | false ↦ step_added r (tick S (arriving arrivals r.state.tick) r.state) ]

  added_unwritten : (arrivals : List Arrival) (r : Run) (over : Bool) → NoneExecuted r.unwritten
      → NoneExecuted (added arrivals r over).unwritten
  added_unwritten arrivals r true none = none
  added_unwritten arrivals r false none = tt

  unwritten : (mode : ℕ) (arrivals : List Arrival) (n : ℕ) → NoneExecuted (run S mode arrivals n).unwritten
  unfolding run
  unwritten mode arrivals zero = none_boot S mode
  unwritten mode arrivals (suc n) =
      added_unwritten arrivals (run S mode arrivals n) (run S mode arrivals n).state.over (unwritten mode arrivals n)

  pub all_of_program : (mode : ℕ) (arrivals : List Arrival) (t : ℕ) → AllByRecursion (IsOfProgram S) (record_at S mode arrivals t)
  all_of_program mode arrivals t =
      let r : Run = run S mode arrivals t in
      all_append (IsOfProgram S) r.unwritten (tick S (arriving arrivals r.state.tick) r.state).events
      (others r.unwritten (unwritten mode arrivals t)) (tick_listed (arriving arrivals r.state.tick) r.state)

  -- ---- what is shown of them

  kept_record : (b : Bool) (e f : TraceEvent) → IsOfProgram S e → cond b (Some e) None ≡ Some f → IsOfProgram S f
  kept_record true e f is h = subst (IsOfProgram S) (some_inside e f h) is
  kept_record false e f is h = absurd (grind arith)

  shown_record : (V : System) (p : ℕ) (e : TraceEvent) → IsOfProgram S e → (f : TraceEvent) → shown V p e ≡ Some f → IsOfProgram S f
  shown_record V p TraceEvent.Startup is f h = subst (IsOfProgram S) (some_inside TraceEvent.Startup f h) tt
  shown_record V p (TraceEvent.Shutdown n) is f h = subst (IsOfProgram S) (some_inside (TraceEvent.Shutdown n) f h) tt
  shown_record V p (TraceEvent.Pre t) is f h = kept_record (is_upper_task V p t) (TraceEvent.Pre t) f tt h
  shown_record V p (TraceEvent.Post t) is f h = kept_record (is_upper_task V p t) (TraceEvent.Post t) f tt h
  shown_record V p (TraceEvent.Error who what answer) is f h =
      kept_record (is_upper_source V p who) (TraceEvent.Error who what answer) f tt h
  shown_record V p (TraceEvent.Executed who place what outcome) is f h = go (is_upper_owner V p who) h
    where
      go : (b : Bool) → cond b (Some (TraceEvent.Executed who place what outcome)) (Some TraceEvent.Other) ≡ Some f → IsOfProgram S f
      go true k = subst (IsOfProgram S) (some_inside (TraceEvent.Executed who place what outcome) f k) is
      go false k = subst (IsOfProgram S) (some_inside TraceEvent.Other f k) tt
  shown_record V p TraceEvent.Idle is f h = subst (IsOfProgram S) (some_inside TraceEvent.Other f h) tt
  shown_record V p TraceEvent.Other is f h = subst (IsOfProgram S) (some_inside TraceEvent.Other f h) tt

  view_listed : (V : System) (p : ℕ) (events : List TraceEvent) → AllByRecursion (IsOfProgram S) events
      → AllByRecursion (IsOfProgram S) (view_records V p events)
  view_listed V p [] all = tt
  view_listed V p (e ∷ events) all = go (shown V p e) (shown_record V p e all.0) (view_listed V p events all.1)
    where
      go : (o : Option TraceEvent) → ((f : TraceEvent) → o ≡ Some f → IsOfProgram S f) → AllByRecursion (IsOfProgram S) (view_records V p events)
          → AllByRecursion (IsOfProgram S) (cons_option o (view_records V p events))
      go None is rest = rest
      go (Some f) is rest = (is f refl, rest)

  -- what is shown of a tick
  pub shown_of_program : (V : System) (what : Shown) (mode : ℕ) (arrivals : List Arrival) (t : ℕ)
      → AllByRecursion (IsOfProgram S) (records_shown V what (record_at S mode arrivals t))
  shown_of_program V Shown.All mode arrivals t = all_of_program mode arrivals t
  shown_of_program V Shown.Blocking mode arrivals t = all_of_program mode arrivals t
  shown_of_program V (Shown.View p) mode arrivals t =
      view_listed V p (record_at S mode arrivals t) (all_of_program mode arrivals t)
