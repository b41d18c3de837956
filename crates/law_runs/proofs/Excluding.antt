-- In every run a resource that a job may take and is refused, that job itself holds.
use Rattle.std.proofs.Common.{◌≡◌, ℕ, zero, suc, Bool, true, false, List, [], ◌∷◌, refl, sym, ◌∙◌, ap, subst, arith}
use Rattle.std.specs.Prelude.{Some}
use Rattle.std.specs.List.{AllByRecursion, Contains}
use Rattle.osek_base.specs.declared.ids.ResId.{ResId}
use Rattle.osek_base.specs.declared.ids.Owner.{Owner}
use Rattle.osek_base.specs.declared.status.Status.{Status}
use Rattle.osek_base.specs.declared.instr.Service.{Service}
use Rattle.osek_base.specs.Types.{ServiceCall, PlainInstr}
use Rattle.osek_base.specs.declared.instr.Control.{Control}
use Rattle.osek_base.specs.declared.instr.Instr.{Instr}
use Rattle.osek_base.specs.declared.trace_event.Effect.{Effect}
use Rattle.osek_base.specs.declared.trace_event.Results.{Results}
use Rattle.osek_base.specs.declared.trace_event.Outcome.{Outcome}
use Rattle.osek_base.specs.declared.trace_event.Source.{Source}
use Rattle.osek_base.specs.declared.trace_event.TraceEvent.{TraceEvent}
use Rattle.osek_base.specs.declared.arrivals.Arrival.{Arrival}
use Rattle.osek_base.specs.System.{System, instruction_at}
use Rattle.osek_base.specs.State.{Job, State}
use Rattle.osek_base.specs.Service.{Caller, JobCalls, RoutineCalls, NobodyCalls, may_take, service}
use Rattle.osek_base.specs.Blocker.{calling_job, executing_job}
use Rattle.osek_base.specs.Tick.{Step, at_values, error_record, shutdown_record, executed, caller_executes, executor, execute_phase, before_execution, from_execution, last_phase, tick}
use Rattle.osek_base.specs.Trace.{Run, arriving, with_earlier, step_added, run}
use Rattle.osek_base.specs.Laws.{Excludes}
use Rattle.osek_base.specs.Proper.{IsProper}
use Rattle.law_runs.proofs.Lists.{some_inside, clash, all_weaker, all_append}
use Rattle.law_runs.proofs.Known.{IsCaller, executor_calls}
use Rattle.law_runs.proofs.RankedTick.{IsRunState, IsExecuting, before_executing, tick_ordered, boot_ordered}
use Rattle.law_runs.proofs.Records.{is_executed, NoneExecuted, none_error, none_shutdown, none_before, none_last, none_boot, contains_all}
use Rattle.law_runs.proofs.Exclusion.{refused_holder}

-- the record of a job that may take a resource and is refused it
abbrev pub denial : Job → ResId → TraceEvent
denial j r =
    TraceEvent.Executed (Owner.Task j.id.task) j.context.place (Instr.Service (Service.GetResource (Some r))) (Outcome.Answer Status.Access Results.Nothing)

-- a record is none of a denial, unless the job itself holds the resource
abbrev pub IsFair : Job → ResId → TraceEvent → Type 0
IsFair j r e = e ≡ denial j r → Contains j.held r

none_fair : (j : Job) (r : ResId) (events : List TraceEvent) → NoneExecuted events → AllByRecursion (IsFair j r) events
none_fair j r events none = all_weaker (λ e. is_executed e ≡ false) (IsFair j r) events (λ e h same. clash (sym (ap is_executed same) ∙ h)) none

module _ (S : System) (proper : IsProper S) where
  module _ (s : State) (executing : IsExecuting S proper s) (j : Job) (calls : IsCaller s (JobCalls j)) (r : ResId) (takes : may_take S j.id.task r ≡ true) where
    plain_fair : (who : Owner) (place : ℕ) (p : PlainInstr) (effect : Effect) → IsFair j r (TraceEvent.Executed who place (Instr.Plain p) (Outcome.Plain effect))
    plain_fair who place p effect e = absurd (cc)

    control_fair : (who : Owner) (place : ℕ) (control : Control ℕ) → IsFair j r (TraceEvent.Executed who place (Instr.Control control) Outcome.Control)
    control_fair who place control e = absurd (cc)

    service_fair : (call : ServiceCall)
        → IsFair j r (TraceEvent.Executed (Owner.Task j.id.task) j.context.place (Instr.Service call) (Outcome.Answer (service S (JobCalls j) s (at_values j.context call)).status (service S (JobCalls j) s (at_values j.context call)).results))
    service_fair call e =
        let same : call ≡ Service.GetResource (Some r) = cc in
        let status : (service S (JobCalls j) s (at_values j.context call)).status ≡ Status.Access = cc in
        refused_holder S proper s executing j calls r takes
        (subst (λ c. (service S (JobCalls j) s (at_values j.context c)).status ≡ Status.Access) same status)

    executed_fair : (what : Instr) → AllByRecursion (IsFair j r) (executed S (Owner.Task j.id.task) (JobCalls j) j.context what s).events
    executed_fair (Instr.Plain p) = (plain_fair (Owner.Task j.id.task) j.context.place p _, tt)
    executed_fair (Instr.Service call) =
        (service_fair call, none_fair j r (error_record S (Source.Owner (Owner.Task j.id.task)) (Instr.Service call) (service S (JobCalls j) s (at_values j.context call)).status) (none_error S (Source.Owner (Owner.Task j.id.task)) (Instr.Service call) (service S (JobCalls j) s (at_values j.context call)).status))
    executed_fair (Instr.Control control) =
        (control_fair (Owner.Task j.id.task) j.context.place control, none_fair j r (shutdown_record S control) (none_shutdown S control))

  caller_fair : (c : Caller) (s : State) → IsExecuting S proper s → IsCaller s c → (j : Job) (r : ResId) → calling_job c ≡ Some j → may_take S j.id.task r ≡ true
      → AllByRecursion (IsFair j r) (caller_executes S c s).events
  caller_fair (JobCalls i) s executing calls j r e takes =
      subst (λ k. AllByRecursion (IsFair k r) (caller_executes S (JobCalls i) s).events) same
      (executed_fair s executing i calls r (subst (λ (k : Job). may_take S k.id.task r ≡ true) (sym same) takes) (instruction_at S (Owner.Task i.id.task) i.context.place))
    where
      same : i ≡ j
      same = some_inside i j e
  caller_fair (RoutineCalls a) s executing calls j r e takes = absurd (grind arith)
  caller_fair NobodyCalls s executing calls j r e takes = absurd (grind arith)

  execute_fair : (s : State) → IsExecuting S proper s → (j : Job) (r : ResId) → calling_job (executor s) ≡ Some j → may_take S j.id.task r ≡ true
      → AllByRecursion (IsFair j r) (execute_phase S s).events
  unfolding execute_phase
  execute_fair s executing j r e takes = caller_fair (executor s) s executing (executor_calls s) j r e takes

  -- all records of a step are fair
  abbrev pub IsFairStep : Step → Type 0
  IsFairStep step =
      (j : Job) (r : ResId) → executing_job step ≡ Some j → may_take S j.id.task r ≡ true → AllByRecursion (IsFair j r) step.events

  tick_fair : (arrived : List ℕ) (s : State) (earlier : List TraceEvent) → NoneExecuted earlier → IsRunState S s → IsFairStep (with_earlier earlier (tick S arrived s))
  unfolding tick
  tick_fair arrived s earlier none good j r e takes =
      let ready : State = (before_execution S arrived s).state in
      let executing : IsExecuting S proper ready = before_executing S proper arrived s good in
      all_append (IsFair j r) earlier _ (none_fair j r earlier none)
      (all_append (IsFair j r) (before_execution S arrived s).events (from_execution S ready).events (none_fair j r (before_execution S arrived s).events (none_before S arrived s))
      (all_append (IsFair j r) (execute_phase S ready).events (last_phase S (execute_phase S ready).state).events
      (execute_fair ready executing j r e takes)
      (none_fair j r (last_phase S (execute_phase S ready).state).events (none_last S (execute_phase S ready).state))))

  -- ---- whole runs

  pub record IsFairRun (r : Run) : Type 0 where
    pub steps : AllByRecursion IsFairStep r.steps
    pub good : IsRunState S r.state
    pub unwritten : NoneExecuted r.unwritten

  abbrev pub more_at : List Arrival → Run → Bool → Run
  more_at arrivals r over =
      elim over [ true ↦ r | false ↦ step_added r (tick S (arriving arrivals r.state.tick) r.state) ]

  more_fair : (arrivals : List Arrival) (r : Run) (over : Bool) → r.state.over ≡ over → IsFairRun r → IsFairRun (more_at arrivals r over)
  more_fair arrivals r true e fair = fair
  more_fair arrivals r false e fair = record {
    steps = all_append IsFairStep r.steps (with_earlier r.unwritten (tick S (arriving arrivals r.state.tick) r.state) ∷ []) fair.steps
        (tick_fair (arriving arrivals r.state.tick) r.state r.unwritten fair.unwritten fair.good, tt);
    good = tick_ordered S proper (arriving arrivals r.state.tick) r.state e fair.good;
    unwritten = tt;
  }

  pub run_fair : (mode : ℕ) (arrivals : List Arrival) (n : ℕ) → IsFairRun (run S mode arrivals n)
  unfolding run
  run_fair mode arrivals zero = record { steps = tt; good = boot_ordered S proper mode; unwritten = none_boot S mode }
  run_fair mode arrivals (suc n) = more_fair arrivals (run S mode arrivals n) (run S mode arrivals n).state.over refl (run_fair mode arrivals n)

-- exclusion, in every run
pub excludes : (S : System) (mode : ℕ) (arrivals : List Arrival) (n : ℕ) → IsProper S → Excludes S mode arrivals n
excludes S mode arrivals n proper step j r among runs takes recorded =
    let fair : IsFairStep S proper step = contains_all (IsFairStep S proper) (run S mode arrivals n).steps step (run_fair S proper mode arrivals n).steps among in
    contains_all (IsFair j r) step.events (denial j r) (fair j r runs takes) recorded refl
