-- What a job holds its task may take, in each state of a run.
use Rattle.std.proofs.Common.{◌≡◌, ℕ, Bool, true, false, cond, not, List, [], ◌∷◌, ◌++◌, refl, subst}
use Rattle.std.specs.Prelude.{Option, Some, None, IfSome, slice_index}
use Rattle.std.specs.List.{AllByRecursion, list_all, list_any}
use Rattle.std.proofs.lemmas.Bool.{and_from, and_parts}
use Rattle.osek_base.specs.declared.arrivals.Arrival.{Arrival}
use Rattle.osek_base.specs.declared.ids.Owner.{Owner}
use Rattle.osek_base.specs.declared.ids.ResId.{ResId}
use Rattle.osek_base.specs.declared.instr.Control.{Control}
use Rattle.osek_base.specs.declared.instr.Instr.{Instr}
use Rattle.osek_base.specs.declared.instr.Service.{Service}
use Rattle.osek_base.specs.declared.status.Status.{Status}
use Rattle.osek_base.specs.Instruction.{Context, next, plain}
use Rattle.osek_base.specs.Lists.{without_last}
use Rattle.osek_base.specs.Proper.{IsProper}
use Rattle.osek_base.specs.Service.{JobCalls, changed, effect, first_refusal, gets, given_up, holds, is_outranked, may_take, meets, refusals, releases, service, waiting_for, with_caller}
use Rattle.osek_base.specs.State.{Job, State, interrupts_off, job_of, jobs_but, same_id, with_job}
use Rattle.osek_base.specs.System.{System, instruction_at}
use Rattle.osek_base.specs.Tick.{answered, at_values, executed, job_moved}
use Rattle.osek_base.specs.Trace.{run}
use Rattle.osek_base.specs.Types.{ServiceCall}
use Rattle.law_runs.proofs.Known.{IsCaller, IsRunningCaller, executor_calls, passed}
use Rattle.law_runs.proofs.Lists.{clash, found}
use Rattle.law_costs.specs.Known.{Executes, Known, StaysKnown, at_instruction, behind_by}
use Rattle.law_costs.proofs.InTicks.{at_form}
use Rattle.law_costs.proofs.Known.{at_known}
use Rattle.law_costs.proofs.KnownTick.{known_jobs}
use Rattle.law_nodes.proofs.Granting.{activates, changes, ends, sets, stays}
use Rattle.law_nodes.proofs.Owning.{IsAlone, IsOwn, caller_alone, own_changed}

-- whether a job's task may take all that it holds
abbrev pub is_listed : System → Job → Bool
is_listed S j = list_all (may_take S j.id.task) j.held

abbrev IsListed : System → Job → Type 0
IsListed S j = is_listed S j ≡ true

-- ---- lists

got_all : {X : Type 0} (p : X → Bool) (xs : List X) (x : X) → list_all p xs ≡ true → p x ≡ true
    → list_all p (xs ++ x ∷ []) ≡ true
got_all p [] x all one = and_from (p x) true one refl
got_all p (y ∷ xs) x all one =
    let both = and_parts (p y) (list_all p xs) all in
    and_from (p y) (list_all p (xs ++ x ∷ [])) both.0 (got_all p xs x both.1 one)

left_all : {X : Type 0} (p : X → Bool) (xs : List X) → list_all p xs ≡ true
    → list_all p (without_last xs) ≡ true
left_all p [] all = refl
left_all p (x ∷ []) all = refl
left_all p (x ∷ y ∷ xs) all =
    let both = and_parts (p x) (list_all p (y ∷ xs)) all in
    and_from (p x) (list_all p (without_last (y ∷ xs))) both.0 (left_all p (y ∷ xs) both.1)

not_false : (b : Bool) → not b ≡ false → b ≡ true
not_false true h = refl
not_false false h = clash h

-- ---- the job that executes

module _ (S : System) (s : State) (j : Job) (alone : IsAlone s j) (listed : IsListed S j) where
  abbrev Own : List Job → Type 0
  Own jobs = AllByRecursion (IsOwn (IsListed S) j.id) jobs

  same : Own s.jobs
  same = stays S s j alone (IsListed S) listed

  changed_so : (change : Job → Job) → IsListed S (change j)
      → Own (with_job j.id change s.jobs)
  changed_so change is = changes S s j alone (IsListed S) change is

  ended : Own (jobs_but j.id s.jobs)
  ended = ends S s j alone (IsListed S)

  -- where a resource is got, the task may take it
  may_get : (r : ResId)
      → first_refusal
      ((interrupts_off s, Status.SysDisabled) ∷ refusals S (JobCalls j) s
      (Service.GetResource (Some r)))
      ≡ None
      → may_take S j.id.task r ≡ true
  may_get r none =
      let rest =
      (passed (interrupts_off s) Status.SysDisabled
      (refusals S (JobCalls j) s (Service.GetResource (Some r))) none).1 in
      not_false (may_take S j.id.task r)
      (passed (not (may_take S j.id.task r)) Status.Access
      ((list_any (λ k. holds k r) s.jobs, Status.Access) ∷ []) rest).0

  granted : (call : ServiceCall)
      → first_refusal
      ((interrupts_off s, Status.SysDisabled) ∷ refusals S (JobCalls j) s call) ≡ None
      → Own (effect S (JobCalls j) s call).jobs
  granted (Service.ActivateTask None) none = same
  granted (Service.ActivateTask (Some t)) none =
      activates S s j alone (IsListed S) t s.jobs same
  granted Service.TerminateTask none = ended
  granted (Service.ChainTask None) none = same
  granted (Service.ChainTask (Some t)) none =
      activates S s j alone (IsListed S) t (jobs_but j.id s.jobs) ended
  granted Service.Schedule none = go (is_outranked S (JobCalls j) s.jobs)
    where
      go : (b : Bool) → Own (cond b (with_caller (JobCalls j) given_up s) s).jobs
      go true = changed_so given_up listed
      go false = same
  granted Service.GetTaskId none = same
  granted (Service.GetTaskState o) none = same
  granted (Service.GetResource None) none = same
  granted (Service.GetResource (Some r)) none =
      changed_so (gets r) (got_all (may_take S j.id.task) j.held r listed (may_get r none))
  granted (Service.ReleaseResource None) none = same
  granted (Service.ReleaseResource (Some r)) none =
      changed_so releases (left_all (may_take S j.id.task) j.held listed)
  granted (Service.LoadShared o i) none = same
  granted (Service.StoreShared None i v) none = same
  granted (Service.StoreShared (Some r) i v) none = same
  granted (Service.SetEvent None e) none = same
  granted (Service.SetEvent (Some t) e) none = sets S s j alone (IsListed S) t e listed
  granted (Service.ClearEvent e) none = same
  granted (Service.GetEvent o) none = same
  granted (Service.WaitEvent e) none = go (meets e (slice_index s.masks j.id.task))
    where
      go : (b : Bool)
          → Own (cond b s (record s { jobs = with_job j.id (waiting_for e) s.jobs })).jobs
      go true = same
      go false = changed_so (waiting_for e) listed
  granted (Service.SetRelAlarm None increment cycle) none = same
  granted (Service.SetRelAlarm (Some a) increment cycle) none = same
  granted (Service.SetAbsAlarm None start cycle) none = same
  granted (Service.SetAbsAlarm (Some a) start cycle) none = same
  granted (Service.CancelAlarm None) none = same
  granted (Service.CancelAlarm (Some a)) none = same
  granted (Service.GetAlarm o) none = same
  granted (Service.GetAlarmBase o) none = same

  served : (call : ServiceCall) → Own (service S (JobCalls j) s call).state.jobs
  unfolding service
  served call =
      go
      (first_refusal
      ((interrupts_off s, Status.SysDisabled) ∷ refusals S (JobCalls j) s call)) refl
    where
      go : (o : Option Status)
          → first_refusal
          ((interrupts_off s, Status.SysDisabled) ∷ refusals S (JobCalls j) s call)
          ≡ o
          → Own (changed S (JobCalls j) s call o).jobs
      go None is = granted call is
      go (Some refusal) is = same

  abbrev x : Context
  x = j.context

  moves : Own (with_job j.id (job_moved (next x)) s.jobs)
  moves = changed_so (job_moved (next x)) listed

  own_listed : (who : Owner) (what : Instr)
      → Own (executed S who (JobCalls j) x what s).state.jobs
  own_listed who (Instr.Plain what) =
      changed_so (job_moved (plain what x (s.words who)).context) listed
  own_listed who (Instr.Service call) =
      own_changed (IsListed S) (IsListed S) j.id
      (job_moved
      (answered (service S (JobCalls j) s (at_values x call)).status
      (service S (JobCalls j) s (at_values x call)).results x))
      (service S (JobCalls j) s (at_values x call)).state.jobs (λ k h. h)
      (served (at_values x call))
  own_listed who (Instr.Control Control.DisableAllInterrupts) = moves
  own_listed who (Instr.Control Control.EnableAllInterrupts) = moves
  own_listed who (Instr.Control Control.SuspendAllInterrupts) = moves
  own_listed who (Instr.Control Control.ResumeAllInterrupts) = moves
  own_listed who (Instr.Control Control.SuspendOsInterrupts) = moves
  own_listed who (Instr.Control Control.ResumeOsInterrupts) = moves
  own_listed who (Instr.Control (Control.ShutdownOs number)) = moves
  own_listed who (Instr.Control Control.ReturnFromInterrupt) = moves

-- ---- in a run

abbrev known_listed : System → Known
known_listed S = record { job = λ w j. is_listed S j; routine = λ w a. true }

listed_behind : (S : System) (s : State) (j : Job) → Executes S (JobCalls j) s → IsListed S j
    → IfSome (job_of j.id (behind_by S (JobCalls j) s).jobs) (IsListed S)
listed_behind S s j executes listed = go (job_of j.id (behind_by S (JobCalls j) s).jobs) refl
  where
    calls : IsRunningCaller s j
    calls = subst (IsCaller s) executes.calls (executor_calls s)

    go : (o : Option Job) → job_of j.id (behind_by S (JobCalls j) s).jobs ≡ o
        → IfSome o (IsListed S)
    go None is = tt
    go (Some k) is =
        let both =
        found (IsOwn (IsListed S) j.id) (λ l. same_id l.id j.id)
        (behind_by S (JobCalls j) s).jobs k
        (own_listed S s j (caller_alone S s j executes.good calls) listed
        (Owner.Task j.id.task) (instruction_at S (Owner.Task j.id.task) j.context.place)) is in
        both.0 both.1

if_all : {X : Type 0} (P : X → Type 0) (o : Option X) → ((x : X) → P x) → IfSome o P
if_all P None all = tt
if_all P (Some x) all = all x

listed_stays : (S : System) → StaysKnown S (known_listed S)
listed_stays S = record {
  fresh = λ n inside. refl;
  started = λ i inside. refl;
  dispatched = λ j ready h. h;
  freed = λ j waiting h. h;
  job = λ s j executes h. listed_behind S s j executes h;
  routine = λ s a executes h. if_all (λ b. true ≡ true) _ (λ b. refl);
}

pub all_listed : (S : System) (mode : ℕ) (arrivals : List Arrival) → IsProper S → (n : ℕ)
    → (run S mode arrivals n).state.over ≡ false
    → AllByRecursion (λ j. is_listed S j ≡ true) (at_instruction S mode arrivals n).jobs
all_listed S mode arrivals proper n going =
    known_jobs S (known_listed S) (at_instruction S mode arrivals n)
    (at_form S proper mode arrivals n going)
    (at_known S (known_listed S) proper (listed_stays S) mode arrivals n going).jobs
