-- Where the instruction of a tick is refused for a task, it activates the task, and that is full.
use Rattle.std.proofs.Common.{ℕ, ◌≡◌, Bool, true, false, cond, not, ◌&&◌, List, refl, sym, ◌∙◌, ap, subst}
use Rattle.std.specs.Prelude.{Option, Some, None}
use Rattle.osek_base.specs.declared.arrivals.Arrival.{Arrival}
use Rattle.osek_base.specs.declared.ids.Owner.{Owner}
use Rattle.osek_base.specs.declared.instr.Instr.{Instr}
use Rattle.osek_base.specs.declared.instr.Service.{Service}
use Rattle.osek_base.specs.declared.status.Status.{Status}
use Rattle.osek_base.specs.declared.trace_event.Outcome.{Outcome}
use Rattle.osek_base.specs.declared.trace_event.Results.{Results}
use Rattle.osek_base.specs.Activation.{is_full}
use Rattle.osek_base.specs.Instruction.{Context}
use Rattle.osek_base.specs.Service.{Caller, JobCalls, NobodyCalls, RoutineCalls, answer, by_routine, holds_any, is_own_task, Reply, service}
use Rattle.osek_base.specs.State.{State, interrupts_off}
use Rattle.osek_base.specs.System.{System, instruction_at}
use Rattle.osek_base.specs.Tick.{at_values, before_execution, caller_executes, execute_phase, executed, executor}
use Rattle.osek_base.specs.Trace.{arriving, run}
use Rattle.osek_base.specs.Types.{ServiceCall}
use Rattle.law_runs.proofs.Foremost.{equal}
use Rattle.law_runs.proofs.Lists.{clash, none_some, some_inside}
use Rattle.law_runs.proofs.RunSteps.{run_tick}
use Rattle.law_blockers.specs.Steps.{step_at}
use Rattle.law_blockers.proofs.StepLemmas.{executing_is}
use Rattle.seen_ticks.specs.Observed.{activates, executed_in, is_limit, is_number, refusing, tick_at}
use Rattle.seen_ticks.proofs.Telling.{record_executed}
use Rattle.law_analysis.proofs.RefusingPrograms.{at_same, made_by}

number_is : (k : ℕ) (o : Option ℕ) → is_number k o ≡ true → o ≡ Some k
number_is k None h = clash (sym h)
number_is k (Some m) h = ap Some (equal m k h)

abbrev limits : Option Status → Results → Bool
limits refusal found = is_limit (Outcome.Answer (answer refusal) found)

module _ (found : Results) where
  activating : (off full : Bool)
      → limits (cond off (Some Status.SysDisabled) (cond full (Some Status.Limit) None)) found
      ≡ true → full ≡ true
  activating off true h = refl
  activating true false h = clash (sym h)
  activating false false h = clash (sym h)

  chaining : (off routine holding own full : Bool)
      → limits (cond off (Some Status.SysDisabled) (cond routine (Some Status.CallLevel)
      (cond holding (Some Status.Resource) (cond (not own && full) (Some Status.Limit) None))))
      found
      ≡ true → full ≡ true
  chaining off routine holding own true h = refl
  chaining true routine holding own false h = clash (sym h)
  chaining false true holding own false h = clash (sym h)
  chaining false false true own false h = clash (sym h)
  chaining false false false true false h = clash (sym h)
  chaining false false false false false h = clash (sym h)

module _ (S : System) (k : ℕ) where
  limit_full : (c : Caller) (s : State) (call : ServiceCall) (found : Results)
      → activates (Instr.Service call) ≡ Some k
      → is_limit (Outcome.Answer (service S c s call).status found) ≡ true → is_full S s k ≡ true
  unfolding service
  limit_full c s (Service.ActivateTask (Some t)) found is limit =
      subst (λ u. is_full S s u ≡ true) (some_inside t k is)
      (activating found (interrupts_off s) (is_full S s t) limit)
  limit_full c s (Service.ActivateTask None) found is limit = absurd (none_some k is)
  limit_full c s (Service.ChainTask (Some t)) found is limit =
      subst (λ u. is_full S s u ≡ true) (some_inside t k is)
      (chaining found (interrupts_off s) (by_routine c) (holds_any c) (is_own_task c t)
      (is_full S s t) limit)
  limit_full c s (Service.ChainTask None) found is limit = absurd (none_some k is)
  limit_full c s _ found is limit = absurd (none_some k is)

  -- in a state an instruction is refused for the task
  abbrev IsRefused : State → Option ℕ → Type 0
  IsRefused s made = (made ≡ Some k) × (is_full S s k ≡ true)

  executed_refused : (who : Owner) (c : Caller) (x : Context) (what : Instr) (s : State)
      → instruction_at S who x.place ≡ what
      → is_number k (refusing S (executed_in (executed S who c x what s).events)) ≡ true
      → IsRefused s (activates (instruction_at S who x.place))
  executed_refused who c x (Instr.Plain p) s is h = clash (sym h)
  executed_refused who c x (Instr.Control control) s is h = clash (sym h)
  executed_refused who c x (Instr.Service call) s is h =
      go (is_limit (Outcome.Answer r.status r.results)) refl h
    where
      r : Reply
      r = service S c s (at_values x call)

      go : (b : Bool) → is_limit (Outcome.Answer r.status r.results) ≡ b
          → is_number k (cond b (activates (instruction_at S who x.place)) None) ≡ true
          → IsRefused s (activates (instruction_at S who x.place))
      go false limit h = clash (sym h)
      go true limit h =
          let made = number_is k (activates (instruction_at S who x.place)) h in (
            made,
            limit_full c s (at_values x call) r.results
                (at_same x call ∙ ap activates (sym is) ∙ made) limit,
          )

  called_refused : (c : Caller) (s : State)
      → is_number k (refusing S (executed_in (caller_executes S c s).events)) ≡ true
      → IsRefused s (made_by S c)
  called_refused (JobCalls j) s h =
      executed_refused (Owner.Task j.id.task) (JobCalls j) j.context
      (instruction_at S (Owner.Task j.id.task) j.context.place) s refl h
  called_refused (RoutineCalls a) s h =
      executed_refused (Owner.Routine a.routine) (RoutineCalls a) a.context
      (instruction_at S (Owner.Routine a.routine) a.context.place) s refl h
  called_refused NobodyCalls s h = clash (sym h)

  phase_refused : (s : State)
      → is_number k (refusing S (executed_in (execute_phase S s).events)) ≡ true
      → IsRefused s (made_by S (executor s))
  unfolding execute_phase
  phase_refused s h = called_refused (executor s) s h

  -- in a tick of a run
  pub run_refused : (mode : ℕ) (arrivals : List Arrival) (n : ℕ)
      → (run S mode arrivals n).state.over ≡ false
      → is_number k (refusing S (tick_at S mode arrivals n).executed) ≡ true
      → IsRefused (step_at S mode arrivals n).executing
      (made_by S (executor (step_at S mode arrivals n).executing))
  run_refused mode arrivals n going h =
      phase_refused (step_at S mode arrivals n).executing
      (subst (λ o. is_number k (refusing S o) ≡ true)
      (record_executed S mode arrivals n
      ∙ ap
      (λ t. executed_in (execute_phase S
      (before_execution S (arriving arrivals t) (run S mode arrivals n).state).state).events)
      (run_tick S mode arrivals n going)
      ∙ ap (λ e. executed_in (execute_phase S e).events) (executing_is S mode arrivals n going))
      h)
