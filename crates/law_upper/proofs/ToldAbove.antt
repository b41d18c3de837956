-- What is told of upper tasks by the records of a tick is told by what the upper part executes.
use Rattle.std.proofs.Common.{◌≡◌, ℕ, Bool, true, false, List, [], ◌∷◌, refl, sym, ◌∙◌, ap}
use Rattle.std.specs.Prelude.{Option, Some, None}
use Rattle.std.specs.List.{filter_map, AllByRecursion}
use Rattle.osek_base.specs.declared.arrivals.Arrival.{Arrival}
use Rattle.osek_base.specs.declared.ids.Owner.{Owner}
use Rattle.osek_base.specs.declared.instr.Instr.{Instr}
use Rattle.osek_base.specs.declared.instr.Control.{Control}
use Rattle.osek_base.specs.declared.status.Status.{Status}
use Rattle.osek_base.specs.declared.trace_event.Outcome.{Outcome}
use Rattle.osek_base.specs.declared.trace_event.Source.{Source}
use Rattle.osek_base.specs.declared.trace_event.TraceEvent.{TraceEvent}
use Rattle.osek_base.specs.System.{System, instruction_at}
use Rattle.osek_base.specs.Instruction.{Context, plain}
use Rattle.osek_base.specs.State.{Job, JobId, Active, State, same_id, job_of}
use Rattle.osek_base.specs.Reschedule.{hooked}
use Rattle.osek_base.specs.Service.{Caller, JobCalls, RoutineCalls, Reply, service}
use Rattle.osek_base.specs.Tick.{error_record, at_values, shutdown_record, executed, caller_executes, caller_of, job_caller, execute_phase, tick}
use Rattle.osek_base.specs.Trace.{arriving, run}
use Rattle.osek_base.specs.Upper.{is_upper_owner}
use Rattle.osek_base.specs.Separable.{Separable, names_upper}
use Rattle.osek_base.specs.Agree.{renumbered, upper_core}
use Rattle.osek_base.specs.Proper.{IsProper}
use Rattle.partition_check.proofs.UpperState.{is_upper_job}
use Rattle.partition_check.proofs.IsolationLemmas.{Agree-core}
use Rattle.partition_check.proofs.Shared.{IsLayered, IsLayeredJob}
use Rattle.partition_check.proofs.ProgramFacts.{lower_instr}
use Rattle.partition_check.proofs.ExecuteUp.{found}
use Rattle.law_upper.specs.ExecutedAbove.{upper_execution, upper_executions}
use Rattle.law_future.specs.Alike.{records_at}
use Rattle.law_upper.specs.Above.{AreOneAbove}
use Rattle.law_upper.proofs.Sides.{run_beside}
use Rattle.law_upper.proofs.States.{executing_beside}
use Rattle.law_upper.proofs.Executions.{IsOfExecutions, core_execution, of_system, tick_tells, tick_one}

-- ---- what is told of a list of records

-- the same is told of what the upper part executes
abbrev pub again : {X : Type 0} → (TraceEvent → Option X) → Option TraceEvent → Option X
again f None = None
again f (Some e) = f e

-- one record of a list
none_more : {X : Type 0} (f : TraceEvent → Option X) (e : TraceEvent) (es : List TraceEvent)
    → f e ≡ None → filter_map f (e ∷ es) ≡ filter_map f es
none_more f e es h = rw h refl

some_more : {X : Type 0} (f : TraceEvent → Option X) (e : TraceEvent) (es : List TraceEvent) (x : X)
    → f e ≡ Some x → filter_map f (e ∷ es) ≡ x ∷ filter_map f es
some_more f e es x h = rw h refl

both_more : {X : Type 0} (f : TraceEvent → Option X) (e d : TraceEvent) (es ds : List TraceEvent)
    (o : Option X) → f e ≡ o → f d ≡ o → filter_map f es ≡ filter_map f ds
    → filter_map f (e ∷ es) ≡ filter_map f (d ∷ ds)
both_more f e d es ds None h k rest = none_more f e es h ∙ rest ∙ sym (none_more f d ds k)
both_more f e d es ds (Some x) h k rest =
    some_more f e es x h ∙ ap (λ xs. x ∷ xs) rest ∙ sym (some_more f d ds x k)

abbrev pub told : {X : Type 0} → (TraceEvent → Option X) → List TraceEvent → List X
told f events = filter_map f events

-- ---- what goes by what the upper part executes

-- it is told of executions alone; of those of upper owners by operands as numbered among what is
-- upper; and of none of lower owners, which name nothing upper
pub record GoesByUpper {X : Type 0} (f : TraceEvent → Option X) (S : System)
    (p : ℕ) : Type 0 where
  pub only : IsOfExecutions f
  pub idle : f TraceEvent.Idle ≡ None
  pub upper : (who : Owner) (place : ℕ) (what : Instr) (outcome : Outcome)
      → is_upper_owner S p who ≡ true
      → f (TraceEvent.Executed who place what outcome)
      ≡ f (TraceEvent.Executed who place (renumbered S p what) outcome)
  pub lower : (who : Owner) (place : ℕ) (what : Instr) (outcome : Outcome)
      → is_upper_owner S p who ≡ false → names_upper S p what ≡ false
      → f (TraceEvent.Executed who place what outcome) ≡ None

module _ {X : Type 0} (f : TraceEvent → Option X) (S : System) (p : ℕ) (g : GoesByUpper f S p) where
  abbrev pub IsToldAbove : TraceEvent → Type 0
  IsToldAbove e = f e ≡ again f (upper_execution S p e)

  all_told : (events : List TraceEvent) → AllByRecursion IsToldAbove events
      → told f events ≡ told f (upper_executions S p events)
  all_told [] all = refl
  all_told (e ∷ events) all = go (upper_execution S p e) refl all.0 (all_told events all.1)
    where
      go : (o : Option TraceEvent) → upper_execution S p e ≡ o
          → f e ≡ again f o
          → told f events ≡ told f (upper_executions S p events)
          → told f (e ∷ events) ≡ told f (upper_executions S p (e ∷ events))
      go None is h rest =
          none_more f e events h ∙ rest
          ∙ ap (told f) (sym (none_more (upper_execution S p) e events is))
      go (Some d) is h rest =
          both_more f e d events (upper_executions S p events)
          (f d) h refl rest
          ∙ ap (told f) (sym (some_more (upper_execution S p) e events d is))

  told_upper : (who : Owner) (place : ℕ) (what : Instr) (outcome : Outcome)
      → is_upper_owner S p who ≡ true → IsToldAbove (TraceEvent.Executed who place what outcome)
  told_upper who place what outcome high = rw high (g.upper who place what outcome high)

  told_lower : (who : Owner) (place : ℕ) (what : Instr) (outcome : Outcome)
      → is_upper_owner S p who ≡ false → names_upper S p what ≡ false
      → IsToldAbove (TraceEvent.Executed who place what outcome)
  told_lower who place what outcome low named = rw low (g.lower who place what outcome low named)

  error_told : (who : Source) (what : Instr) (status : Status)
      → AllByRecursion IsToldAbove (error_record S who what status)
  error_told who what Status.Ok = tt
  error_told who what status = go S.hooks.error
    where
      go : (b : Bool) → AllByRecursion IsToldAbove (hooked b (TraceEvent.Error who what status))
      go true = (g.only.error who what status, tt)
      go false = tt

  shutdown_told : (control : Control ℕ) → AllByRecursion IsToldAbove (shutdown_record S control)
  shutdown_told (Control.ShutdownOs n) = go S.hooks.shutdown
    where
      go : (b : Bool) → AllByRecursion IsToldAbove (hooked b (TraceEvent.Shutdown n))
      go true = (g.only.shutdown n, tt)
      go false = tt
  shutdown_told _ = tt

  executed_told : (who : Owner) (c : Caller) (x : Context) (what : Instr) (s : State)
      → ((outcome : Outcome) → IsToldAbove (TraceEvent.Executed who x.place what outcome))
      → AllByRecursion IsToldAbove (executed S who c x what s).events
  executed_told who c x (Instr.Plain act) s each =
      (each (Outcome.Plain (plain act x (s.words who)).effect), tt)
  executed_told who c x (Instr.Control control) s each =
      (each Outcome.Control, shutdown_told control)
  executed_told who c x (Instr.Service call) s each =
      let mine : Reply = service S c s (at_values x call) in (
        each (Outcome.Answer mine.status mine.results),
        error_told (Source.Owner who)
            (Instr.Service call) mine.status,
      )

  module _ (proper : IsProper S) (separable : Separable S p) (s : State)
      (layered : IsLayered S p s) where
    job_told : (j : Job) → IsLayeredJob S p j
        → AllByRecursion IsToldAbove (caller_executes S (JobCalls j) s).events
    job_told j laid =
        let what : Instr = instruction_at S (Owner.Task j.id.task) j.context.place in
        executed_told (Owner.Task j.id.task) (JobCalls j) j.context what s
        (λ outcome. go outcome (is_upper_job S p j) refl)
      where
        go : (outcome : Outcome) (b : Bool) → is_upper_job S p j ≡ b
            → IsToldAbove (TraceEvent.Executed (Owner.Task j.id.task) j.context.place
            (instruction_at S (Owner.Task j.id.task) j.context.place) outcome)
        go outcome true h =
            told_upper (Owner.Task j.id.task) j.context.place
            (instruction_at S (Owner.Task j.id.task) j.context.place) outcome h
        go outcome false h =
            told_lower (Owner.Task j.id.task) j.context.place
            (instruction_at S (Owner.Task j.id.task) j.context.place) outcome h
            (lower_instr S p proper separable j.id.task j.context.place laid.task h).names

    found_told : (r : JobId) (o : Option Job) → job_of r s.jobs ≡ o
        → AllByRecursion IsToldAbove (caller_executes S (job_caller o) s).events
    found_told r None e = (g.idle, tt)
    found_told r (Some j) e =
        job_told j (found (IsLayeredJob S p) (λ k. same_id k.id r) s.jobs j layered.jobs e).0

    caller_told : (active : Option Active) (running : Option JobId)
        → AllByRecursion IsToldAbove (caller_executes S (caller_of active running s.jobs) s).events
    caller_told (Some a) running =
        executed_told (Owner.Routine a.routine) (RoutineCalls a) a.context
        (instruction_at S (Owner.Routine a.routine) a.context.place) s
        (λ outcome. told_upper (Owner.Routine a.routine) a.context.place
        (instruction_at S (Owner.Routine a.routine) a.context.place) outcome refl)
    caller_told None None = (g.idle, tt)
    caller_told None (Some r) = found_told r (job_of r s.jobs) refl

    pub phase_told : AllByRecursion IsToldAbove (execute_phase S s).events
    unfolding execute_phase
    phase_told = caller_told s.active s.running

  told_above : (proper : IsProper S) (separable : Separable S p) (mode : ℕ)
      (arrivals : List Arrival) (n : ℕ)
      → told f (records_at S mode arrivals n)
      ≡ told f (upper_executions S p (records_at S mode arrivals n))
  told_above proper separable mode arrivals n =
      let arrived : List ℕ = arriving arrivals n in
      let s : State = (run S mode arrivals n).state in
      let beside =
      executing_beside S p proper separable arrived s (run (upper_core S p) mode arrivals n).state
      (run_beside S p proper separable mode arrivals n) in
      tick_tells f g.only S arrived s
      ∙ all_told (execute_phase S (tick S arrived s).executing).events
      (phase_told proper separable (tick S arrived s).executing beside.layered)
      ∙ ap (told f) (sym (tick_tells (upper_execution S p) (of_system S p) S arrived s))

-- ---- systems that agree

pub executions_same : (S B : System) (p : ℕ) → AreOneAbove S B p
    → (mode : ℕ) (arrivals : List Arrival) (n : ℕ)
    → upper_executions S p (records_at S mode arrivals n)
    ≡ upper_executions B p (records_at B mode arrivals n)
executions_same S B p pair mode arrivals n =
    tick_one S p pair.proper pair.separable mode arrivals n
    ∙ ap (λ C. filter_map core_execution (records_at C mode arrivals n))
    (Agree-core S B p pair.agree)
    ∙ sym (tick_one B p pair.proper_there pair.separable_there mode arrivals n)

pub told_same : {X : Type 0} (f : TraceEvent → Option X) (S B : System) (p : ℕ)
    → AreOneAbove S B p → GoesByUpper f S p → GoesByUpper f B p
    → (mode : ℕ) (arrivals : List Arrival) (n : ℕ)
    → told f (records_at S mode arrivals n) ≡ told f (records_at B mode arrivals n)
told_same f S B p pair mine theirs mode arrivals n =
    told_above f S p mine pair.proper pair.separable mode arrivals n
    ∙ ap (told f) (executions_same S B p pair mode arrivals n)
    ∙ sym (told_above f B p theirs pair.proper_there pair.separable_there mode arrivals n)
