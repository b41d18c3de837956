-- A service that is answered other than E_OK in a tick of a run is one of those that a closed table
-- tells.
use Rattle.std.proofs.Common.{◌≡◌, ℕ, suc, Bool, true, false, cond, ◌||◌, nat_lt, List, [], ◌∷◌, ◌++◌, refl, sym, ◌∙◌, ap, subst, arith}
use Rattle.std.specs.Prelude.{Option, Some, None, Contains, IfSome}
use Rattle.std.specs.List.{list_any}
use Rattle.osek_base.specs.declared.arrivals.Arrival.{Arrival}
use Rattle.osek_base.specs.declared.executed.Executed.{Executed}
use Rattle.osek_base.specs.declared.ids.Owner.{Owner}
use Rattle.osek_base.specs.declared.instr.Instr.{Instr}
use Rattle.osek_base.specs.declared.status.Status.{Status}
use Rattle.osek_base.specs.declared.trace_event.TraceEvent.{TraceEvent}
use Rattle.osek_base.specs.Instruction.{Context}
use Rattle.osek_base.specs.Proper.{IsProper}
use Rattle.osek_base.specs.Service.{Caller, JobCalls, NobodyCalls, RoutineCalls, answer, first_refusal, refusals, service}
use Rattle.osek_base.specs.State.{State, interrupts_off}
use Rattle.osek_base.specs.System.{System, instruction_at}
use Rattle.osek_base.specs.Tick.{at_values, before_execution, caller_executes, execute_phase, executed, executor, last_phase, status_number, tick}
use Rattle.osek_base.specs.Trace.{arriving, run}
use Rattle.osek_base.specs.Types.{ServiceCall}
use Rattle.law_runs.proofs.Known.{IsCaller, executor_calls}
use Rattle.law_runs.proofs.Lists.{clash}
use Rattle.law_runs.proofs.RankedTick.{before_executing, run_ordered}
use Rattle.law_runs.proofs.Records.{NoneExecuted, none_before, none_last}
use Rattle.law_kept.specs.KeptTick.{KeptStep}
use Rattle.law_kept.proofs.Ticked.{ticks}
use Rattle.law_blockers.proofs.StepLemmas.{executing_is}
use Rattle.law_seen.proofs.Shown.{runs_show}
use Rattle.seen_ticks.specs.declared.failures.Failure.{Failure}
use Rattle.seen_ticks.specs.Observed.{executed_in, failure_of, tick_at}
use Rattle.law_jobs.proofs.Executing.{none_told}
use Rattle.law_costs.specs.Known.{ExcludesOthers, IsKnownCaller}
use Rattle.law_costs.specs.Left.{is_off, switch_of}
use Rattle.law_costs.proofs.Excluding.{excludes_others}
use Rattle.law_nodes.specs.Closed.{is_closed, known_by}
use Rattle.law_nodes.specs.Nodes.{Node, Standing, Table, is_at, is_told, of_job, of_routine}
use Rattle.law_nodes.specs.Services.{answers, caller_by, first_refusals, refusals_of}
use Rattle.law_nodes.proofs.Closing.{runs_are_told}
use Rattle.law_nodes.proofs.Knowing.{AreValues}
use Rattle.law_nodes.proofs.Refusing.{AreTold, TellsOf, refusals_told}
use Rattle.law_nodes.proofs.Standing.{at_is, node_of}
use Rattle.law_nodes.proofs.Telling.{job_tells, routine_tells}

-- ---- lists

contains_later : {X : Type 0} (y : X) (xs : List X) (x : X) → Contains xs x → Contains (y ∷ xs) x
contains_later y xs x at = (suc at.0, (let less = at.1 in omega (arith, less)), at.2)

contains_first : {X : Type 0} (y : X) (xs : List X) (x : X) → y ≡ x → Contains (y ∷ xs) x
contains_first y xs x is = (0, omega arith, is)

-- one that passes is in the list
any_contained : {X : Type 0} (test : X → Bool) (xs : List X) → list_any test xs ≡ true
    → (x : X) × Contains xs x × (test x ≡ true)
any_contained test [] some = clash (sym some)
any_contained test (x ∷ xs) some = go (test x) refl some (any_contained test xs)
  where
    go : (b : Bool) → test x ≡ b → (b || list_any test xs) ≡ true
        → (list_any test xs ≡ true → (y : _) × Contains xs y × (test y ≡ true))
        → (y : _) × Contains (x ∷ xs) y × (test y ≡ true)
    go true is some rest = (x, contains_first x xs x refl, is)
    go false is some rest =
        let one = rest some in
        (one.0, contains_later x xs one.0 one.1, one.2)

-- the first refusal that applies is one of those that are told
first_contained : (ts : List (Option Bool × Status)) (rs : List (Bool × Status)) → AreTold ts rs
    → Contains (first_refusals ts) (first_refusal rs)
first_contained [] [] told = contains_first None [] None refl
first_contained [] (r ∷ rs) told = absurd told
first_contained (t ∷ ts) [] told = absurd told
first_contained ((None, e) ∷ ts) ((b, f) ∷ rs) told =
    go b (λ passed. first_contained ts rs (told.2 passed))
  where
    go : (b : Bool) → (b ≡ false → Contains (first_refusals ts) (first_refusal rs))
        → Contains (Some e ∷ first_refusals ts) (cond b (Some f) (first_refusal rs))
    go true rest = contains_first (Some e) (first_refusals ts) (Some f) (ap Some told.1)
    go false rest = contains_later (Some e) (first_refusals ts) (first_refusal rs) (rest refl)
first_contained ((Some true, e) ∷ ts) ((b, f) ∷ rs) told =
    contains_first (Some e) [] (cond b (Some f) (first_refusal rs))
    (ap Some told.1 ∙ ap (λ c. cond c (Some f) (first_refusal rs)) told.0)
first_contained ((Some false, e) ∷ ts) ((b, f) ∷ rs) told =
    subst (Contains (first_refusals ts)) (ap (λ c. cond c (Some f) (first_refusal rs)) told.0)
    (first_contained ts rs (told.2 (sym told.0)))

-- ---- a failure at a node

-- a node of the table is at the instruction, and may be refused so
pub record IsToldAt (S : System) (table : Table) (f : Failure) : Type 0 where
  pub node : Node
  pub there : Contains table node
  pub owner : node.owner ≡ f.owner
  pub place : node.place ≡ f.place
  pub call : ServiceCall
  pub calls : instruction_at S node.owner node.place ≡ Instr.Service call
  pub refused : Contains (answers S node call) (Some f.status)

abbrev pub AreToldAt : System → Table → Option Executed → Type 0
AreToldAt S table told = IfSome (failure_of told) (IsToldAt S table)

module _ (S : System) (table : Table) (s : State) (x : Standing) (who : Caller)
    (told : is_told table x ≡ true) (on : x.switch ≡ switch_of s)
    (tells : TellsOf S s (caller_by x.owner x.held) who) where
  abbrev instr : Instr
  instr = instruction_at S x.owner x.context.place

  node_there : (n : Node) × Contains table n × (is_at n x ≡ true)
  node_there = any_contained (λ n. is_at n x) table told

  abbrev all_refusals : ServiceCall → List (Bool × Status)
  all_refusals call =
      (interrupts_off s, Status.SysDisabled) ∷ refusals S who s (at_values x.context call)

  answered_told : (n : Node) → n ≡ node_of x n.registers n.used
      → AreValues n.registers x.context.registers → (call : ServiceCall)
      → Contains (answers S n call) (first_refusal (all_refusals call))
  answered_told n is all call =
      subst (λ (m : Node). Contains (answers S m call) (first_refusal (all_refusals call))) (sym is)
      (first_contained
      ((Some (is_off x.switch), Status.SysDisabled)
      ∷ refusals_of S (caller_by x.owner x.held) n.registers call)
      (all_refusals call) (
        ap is_off on,
        refl,
        λ enabled.
            refusals_told S s (caller_by x.owner x.held) who tells x.context n.registers all
            enabled call,
      ))

  service_told : (call : ServiceCall) → instr ≡ Instr.Service call → (refusal : Status)
      → first_refusal (all_refusals call) ≡ Some refusal
      → IsToldAt S table
      (record { owner = x.owner; place = x.context.place; status = refusal })
  service_told call is refusal applies =
      let one = node_there in
      let at = at_is one.0 x one.2 in
      record {
        node = one.0;
        there = one.1;
        owner = ap (λ (m : Node). m.owner) at.0;
        place = ap (λ (m : Node). m.place) at.0;
        call = call;
        calls = ap (λ (m : Node). instruction_at S m.owner m.place) at.0 ∙ is;
        refused =
            subst (Contains (answers S one.0 call)) applies
            (answered_told one.0 at.0 at.1 call);
      }

  executed_told : (c : Context) (rest : List TraceEvent) → c ≡ x.context → (i : Instr) → instr ≡ i
      → AreToldAt S table (executed_in ((executed S x.owner who c i s).events ++ rest))
  unfolding service
  executed_told c rest same (Instr.Plain act) is = tt
  executed_told c rest same (Instr.Control control) is = tt
  executed_told c rest same (Instr.Service call) is =
      subst
      (λ (y : Context). AreToldAt S table
      (executed_in ((executed S x.owner who y (Instr.Service call) s).events ++ rest)))
      (sym same) (go (first_refusal (all_refusals call)) refl)
    where
      failure : Status → Failure
      failure refusal =
          record { owner = x.owner; place = x.context.place; status = refusal }

      by : (refusal : Status) → IsToldAt S table (failure refusal) → (b : Bool)
          → IfSome (cond b (Some (failure refusal)) None) (IsToldAt S table)
      by refusal told true = told
      by refusal told false = tt

      go : (o : Option Status) → first_refusal (all_refusals call) ≡ o
          → IfSome
          (cond (nat_lt 0 (status_number (answer o))) (Some (failure (answer o))) None)
          (IsToldAt S table)
      go None applies = tt
      go (Some refusal) applies =
          by refusal (service_told call is refusal applies) (nat_lt 0 (status_number refusal))

-- ---- who executes

module _ (S : System) (table : Table) (s : State) (rest : List TraceEvent)
    (none : NoneExecuted rest) where
  caller_told : (c : Caller) → IsCaller s c → ExcludesOthers S c s
      → IsKnownCaller (known_by table) (switch_of s) c
      → AreToldAt S table (executed_in ((caller_executes S c s).events ++ rest))
  caller_told (JobCalls j) calls excludes told =
      executed_told S table s (of_job (switch_of s) j) (JobCalls j) told refl
      (job_tells S s j calls excludes) j.context rest refl
      (instruction_at S (Owner.Task j.id.task) j.context.place) refl
  caller_told (RoutineCalls a) calls excludes told =
      executed_told S table s (of_routine (switch_of s) a) (RoutineCalls a) told refl
      (routine_tells S s a) a.context rest refl
      (instruction_at S (Owner.Routine a.routine) a.context.place) refl
  caller_told NobodyCalls calls excludes told =
      subst (AreToldAt S table) (sym (none_told rest none)) tt

  phase_told : ExcludesOthers S (executor s) s
      → IsKnownCaller (known_by table) (switch_of s) (executor s)
      → AreToldAt S table (executed_in ((execute_phase S s).events ++ rest))
  unfolding execute_phase
  phase_told excludes told =
      caller_told (executor s) (executor_calls s) excludes told

-- ---- in a run

told_behind : (before events : List TraceEvent) → NoneExecuted before
    → executed_in (before ++ events) ≡ executed_in events
told_behind [] events none = refl
told_behind (TraceEvent.Executed who place what outcome ∷ before) events none = clash none.0
told_behind (_ ∷ before) events none = told_behind before events none.1

tick_told : (S : System) (table : Table) (arrived : List ℕ) (s : State)
    → ExcludesOthers S (executor (before_execution S arrived s).state)
    (before_execution S arrived s).state
    → IsKnownCaller (known_by table) (switch_of (before_execution S arrived s).state)
    (executor (before_execution S arrived s).state)
    → AreToldAt S table (executed_in (tick S arrived s).events)
unfolding tick
tick_told S table arrived s excludes told =
    let ready : State = (before_execution S arrived s).state in
    let rest : List TraceEvent = (last_phase S (execute_phase S ready).state).events in
    subst (AreToldAt S table)
    (sym (told_behind (before_execution S arrived s).events ((execute_phase S ready).events ++ rest)
    (none_before S arrived s)))
    (phase_told S table ready rest (none_last S (execute_phase S ready).state)
    excludes told)

pub run_told : (S : System) (mode : ℕ) (arrivals : List Arrival) (table : Table) → IsProper S
    → is_closed S table ≡ true → (n : ℕ) → (run S mode arrivals n).state.over ≡ false
    → AreToldAt S table (tick_at S mode arrivals n).executed
run_told S mode arrivals table proper closed n going =
    subst (AreToldAt S table)
    (sym
    ((runs_show S mode arrivals n proper going).executed
    ∙ sym (ap (λ (u : KeptStep). executed_in u.events)
    (ticks S mode arrivals n (arriving arrivals n) proper))))
    (tick_told S table (arriving arrivals n) (run S mode arrivals n).state
    (excludes_others S proper ready
    (before_executing S proper (arriving arrivals n) (run S mode arrivals n).state
    (run_ordered S proper mode arrivals n))
    (executor ready) (executor_calls ready))
    (subst (λ (s : State). IsKnownCaller (known_by table) (switch_of s) (executor s))
    (sym (executing_is S mode arrivals n going))
    (runs_are_told S mode arrivals table proper closed n going)))
  where
    ready : State
    ready = (before_execution S (arriving arrivals n) (run S mode arrivals n).state).state
