-- The instruction of a tick: which jobs of a task stand behind it.
use Rattle.std.proofs.Common.{◌≡◌, ℕ, ◌⊎◌, inl, inr, Bool, true, false, cond, ◌&&◌, ◌||◌, List, [], ◌∷◌, ◌++◌, refl, sym, ◌∙◌, ap, subst}
use Rattle.std.specs.Prelude.{Option, Some, None, ◌==◌}
use Rattle.osek_base.specs.declared.executed.Executed.{Executed}
use Rattle.osek_base.specs.declared.ids.Owner.{Owner}
use Rattle.osek_base.specs.declared.instr.Control.{Control}
use Rattle.osek_base.specs.declared.instr.Instr.{Instr}
use Rattle.osek_base.specs.declared.instr.Service.{Service}
use Rattle.osek_base.specs.declared.trace_event.Outcome.{Outcome}
use Rattle.osek_base.specs.declared.trace_event.TraceEvent.{TraceEvent}
use Rattle.osek_base.specs.Instruction.{Context, next, plain}
use Rattle.osek_base.specs.Service.{Caller, JobCalls, NobodyCalls, RoutineCalls, controlled, service}
use Rattle.osek_base.specs.State.{Active, Job, State, may_dispatch, same_id, waits, words_after}
use Rattle.osek_base.specs.System.{System, instruction_at}
use Rattle.osek_base.specs.Tick.{answered, at_values, caller_executes, execute_phase, executed, executor, job_moved, with_context}
use Rattle.osek_base.specs.Types.{ServiceCall}
use Rattle.law_runs.proofs.Foremost.{equal}
use Rattle.law_runs.proofs.Known.{IsCaller, executor_calls}
use Rattle.law_runs.proofs.Lists.{clash}
use Rattle.law_runs.proofs.Ranked.{HasReady}
use Rattle.law_runs.proofs.Records.{NoneExecuted}
use Rattle.law_runs.proofs.Single.{IsSingle}
use Rattle.law_kept.proofs.JobMoves.{keeps_id, one_changed}
use Rattle.seen_ticks.specs.Observed.{ending, executed_in, is_accepted, is_by, is_end, is_number}
use Rattle.law_jobs.proofs.Calling.{AllStay, HasServed, left_by, same_moved, service_served, unequal}
use Rattle.law_jobs.proofs.Lists.{AreSame, is_there, one_waits, same_jobs, same_mapped}
use Rattle.law_jobs.proofs.Moving.{Moves, same_moves}

-- whether who calls is a job of a task
abbrev pub is_of : ℕ → Caller → Bool
is_of k (JobCalls j) = k == j.id.task
is_of k (RoutineCalls a) = false
is_of k NobodyCalls = false

-- a job of a task calls
abbrev pub IsJobOf : ℕ → Caller → Type 0
IsJobOf k (JobCalls j) = j.id.task ≡ k
IsJobOf k (RoutineCalls a) = ⊥
IsJobOf k NobodyCalls = ⊥

-- what tells that no instruction was executed
pub none_told : (events : List TraceEvent) → NoneExecuted events → executed_in events ≡ None
none_told [] none = refl
none_told (TraceEvent.Executed who place what outcome ∷ events) none = clash none.0
none_told (TraceEvent.Idle ∷ events) none = none_told events none.1
none_told (_ ∷ events) none = none_told events none.1

-- by what is told of a tick, whether the oldest job of a task leaves those that stand
abbrev pub leaves_with : System → ℕ → Option Executed → Bool → Bool
leaves_with S k told waits = is_number k (ending S told) || (is_by (Owner.Task k) told && waits)

abbrev pub leaves_by : System → ℕ → Option Executed → List Job → Bool
leaves_by S k told jobs = leaves_with S k told (one_waits k jobs)

module _ (S : System) (e : State) (single : IsSingle S e) (ready : HasReady e.running e.jobs) where
  -- ---- who executes goes on

  context_same : (k : ℕ) (c : Caller) (y : Context) (x : State)
      → AreSame k x.jobs (with_context c y x).jobs
  context_same k (JobCalls j) y x =
      same_mapped k (one_changed j.id (job_moved y) (λ l. refl))
      (keeps_id j.id (job_moved y) (λ l. refl))
      (λ l. pick l (same_id l.id j.id)) x.jobs
    where
      pick : (l : Job) (b : Bool) → waits (cond b (job_moved y l) l) ≡ waits l
      pick l true = refl
      pick l false = refl
  context_same k (RoutineCalls a) y x = same_jobs k x.jobs x.jobs refl
  context_same k NobodyCalls y x = same_jobs k x.jobs x.jobs refl

  same_left : (k : ℕ) (c : Caller) (ends : Bool) (x : State) (y : Context)
      → left_by k c ends (with_context c y x).jobs ≡ left_by k c ends x.jobs
  same_left k (JobCalls j) ends x y =
      ap (λ w. (ends && (j.id.task == k)) || ((k == j.id.task) && w))
      (context_same k (JobCalls j) y x).waits
  same_left k (RoutineCalls a) ends x y = refl
  same_left k NobodyCalls ends x y = refl

  went_on : (c : Caller) (ends : Bool) (y : Context) (x : State)
      → HasServed S e single ready c ends x
      → HasServed S e single ready c ends (with_context c y x)
  went_on c ends y x served = record {
    moves = λ k.
        subst (λ b. Moves k b e.jobs (with_context c y x).jobs) (sym (same_left k c ends x y))
        (same_moves k (left_by k c ends x.jobs) e.jobs x.jobs (with_context c y x).jobs
        (served.moves k)
        (context_same k c y x));
    stays = go served.stays;
  }
    where
      go : AllStay e.jobs x.jobs ⊎ (may_dispatch e ≡ true)
          → AllStay e.jobs (with_context c y x).jobs ⊎ (may_dispatch e ≡ true)
      go (inl stay) = inl (λ n h. (context_same 0 c y x).there n ∙ stay n h)
      go (inr due) = inr due

  still_served : (c : Caller) → IsCaller e c → (x : State) → x.jobs ≡ e.jobs
      → HasServed S e single ready c false x
  still_served c calls x same =
      let h = same_moved S e single ready c calls x same in
      record { moves = h.moves; stays = inl (λ n there. ap (is_there n) same ∙ there) }

  controlled_jobs : (control : Control ℕ) → (controlled control e).jobs ≡ e.jobs
  controlled_jobs Control.DisableAllInterrupts = refl
  controlled_jobs _ = refl

  end_same : (y : Context) (call : ServiceCall)
      → is_end (Instr.Service (at_values y call)) ≡ is_end (Instr.Service call)
  end_same y (Service.SetRelAlarm o a b) = refl
  end_same y (Service.SetAbsAlarm o a b) = refl
  end_same y (Service.LoadShared o i) = refl
  end_same y (Service.StoreShared o i v) = refl
  end_same y (Service.ActivateTask o) = refl
  end_same y Service.TerminateTask = refl
  end_same y (Service.ChainTask o) = refl
  end_same y Service.Schedule = refl
  end_same y Service.GetTaskId = refl
  end_same y (Service.GetTaskState o) = refl
  end_same y (Service.GetResource o) = refl
  end_same y (Service.ReleaseResource o) = refl
  end_same y (Service.SetEvent o m) = refl
  end_same y (Service.ClearEvent m) = refl
  end_same y (Service.GetEvent o) = refl
  end_same y (Service.WaitEvent m) = refl
  end_same y (Service.CancelAlarm o) = refl
  end_same y (Service.GetAlarm o) = refl
  end_same y (Service.GetAlarmBase o) = refl

  -- whether an outcome is that the job that executes ended
  abbrev pub ends_with : Instr → Outcome → Bool
  ends_with what outcome = is_accepted outcome && is_end what

  -- what an instruction leaves, and what is told of it
  record HasDone (c : Caller) (who : Owner) (what : Instr) (place : ℕ) (x : State)
      (told : Option Executed) : Type 0 where
    outcome : Outcome
    is : told ≡ Some (record { owner = who; place = place; outcome = outcome })
    served : HasServed S e single ready c (ends_with what outcome) x

  executed_done : (who : Owner) (c : Caller) → IsCaller e c → (y : Context) (what : Instr)
      (rest : List TraceEvent)
      → HasDone c who what y.place (executed S who c y what e).state
      (executed_in ((executed S who c y what e).events ++ rest))
  executed_done who c calls y (Instr.Plain p) rest = record {
    outcome = Outcome.Plain (plain p y (e.words who)).effect;
    is = refl;
    served =
        went_on c false (plain p y (e.words who)).context
        (record e { words = words_after e.words who (plain p y (e.words who)).effect })
        (still_served c calls
        (record e { words = words_after e.words who (plain p y (e.words who)).effect }) refl);
  }
  executed_done who c calls y (Instr.Service call) rest =
      let r = service S c e (at_values y call) in
      record {
        outcome = Outcome.Answer r.status r.results;
        is = refl;
        served =
            subst
            (λ b. HasServed S e single ready c
            (is_accepted (Outcome.Answer r.status r.results) && b)
            (with_context c (answered r.status r.results y) r.state))
            (end_same y call)
            (went_on c
            (is_accepted (Outcome.Answer r.status r.results)
            && is_end (Instr.Service (at_values y call)))
            (answered r.status r.results y) r.state
            (service_served S e single ready c calls (at_values y call)));
      }
  executed_done who c calls y (Instr.Control control) rest = record {
    outcome = Outcome.Control;
    is = refl;
    served =
        went_on c false (next y) (controlled control e)
        (still_served c calls (controlled control e) (controlled_jobs control));
  }

  -- ---- no job leaves the list, or a reschedule comes

  abbrev IsDue : State → Type 0
  IsDue x = AllStay e.jobs x.jobs ⊎ ((may_dispatch x ≡ true) × (x.over ≡ e.over))

  same_due : (c : Caller) (y : Context) (x : State) → x.jobs ≡ e.jobs → IsDue (with_context c y x)
  same_due c y x same =
      inl (λ n h. (context_same 0 c y x).there n ∙ ap (is_there n) same ∙ h)

  service_may : (c : Caller) (call : ServiceCall)
      → may_dispatch (service S c e call).state ≡ may_dispatch e
  unfolding service
  service_may c call = refl

  service_over : (c : Caller) (call : ServiceCall) → (service S c e call).state.over ≡ e.over
  unfolding service
  service_over c call = refl

  service_due : (c : Caller) → IsCaller e c → (y : Context) (call : ServiceCall)
      → AllStay e.jobs (service S c e call).state.jobs ⊎ (may_dispatch e ≡ true)
      → IsDue (with_context c y (service S c e call).state)
  service_due c calls y call (inl stay) =
      inl (λ n h. (context_same 0 c y (service S c e call).state).there n ∙ stay n h)
  service_due (JobCalls j) calls y call (inr due) =
      inr (service_may (JobCalls j) call ∙ due, service_over (JobCalls j) call)
  service_due (RoutineCalls a) calls y call (inr due) = clash (sym due ∙ rw calls refl)
  service_due NobodyCalls calls y call (inr due) =
      inr (service_may NobodyCalls call ∙ due, service_over NobodyCalls call)

  executed_due : (who : Owner) (c : Caller) → IsCaller e c → (y : Context) (what : Instr)
      → IsDue (executed S who c y what e).state
  executed_due who c calls y (Instr.Plain p) =
      same_due c (plain p y (e.words who)).context
      (record e { words = words_after e.words who (plain p y (e.words who)).effect }) refl
  executed_due who c calls y (Instr.Service call) =
      service_due c calls
      (answered (service S c e (at_values y call)).status
      (service S c e (at_values y call)).results y) (at_values y call)
      (service_served S e single ready c calls (at_values y call)).stays
  executed_due who c calls y (Instr.Control control) =
      same_due c (next y) (controlled control e) (controlled_jobs control)

  -- ---- by who executes

  pub record HasExecuted (c : Caller) (x : State) (told : Option Executed) : Type 0 where
    pub leaver : (k : ℕ) → leaves_by S k told x.jobs ≡ true → IsJobOf k c
    pub moves : (k : ℕ) → Moves k (leaves_by S k told x.jobs) e.jobs x.jobs
    pub stays : AllStay e.jobs x.jobs ⊎ ((may_dispatch x ≡ true) × (x.over ≡ e.over))
    pub by : (k : ℕ) → is_by (Owner.Task k) told ≡ is_of k c

  -- what is told of a job, of a routine
  told_number : (k t : ℕ) (b : Bool) → is_number k (cond b (Some t) None) ≡ (b && (t == k))
  told_number k t true = refl
  told_number k t false = refl

  own_task : (k t : ℕ) (b w : Bool) → ((b && (t == k)) || ((k == t) && w)) ≡ true → t ≡ k
  own_task k t b w h = go (t == k) refl
    where
      go : (own : Bool) → (t == k) ≡ own → t ≡ k
      go true is = equal t k is
      go false is =
          clash
          (sym h
          ∙ ap (λ c. (b && c) || ((k == t) && w)) is
          ∙ ap (λ c. (b && false) || (c && w)) (unequal t k is) ∙ none b)
        where
          none : (b : Bool) → ((b && false) || false) ≡ false
          none true = refl
          none false = refl

  told_none : (k : ℕ) (b : Bool) → is_number k (cond b None None) ≡ false
  told_none k true = refl
  told_none k false = refl

  job_executed : (j : Job) → IsCaller e (JobCalls j) → (rest : List TraceEvent)
      → HasExecuted (JobCalls j) (caller_executes S (JobCalls j) e).state
      (executed_in ((caller_executes S (JobCalls j) e).events ++ rest))
  job_executed j calls rest =
      let who : Owner = Owner.Task j.id.task in
      let what : Instr = instruction_at S (Owner.Task j.id.task) j.context.place in
      let x : State = (caller_executes S (JobCalls j) e).state in
      let done : HasDone (JobCalls j) (Owner.Task j.id.task)
      (instruction_at S (Owner.Task j.id.task) j.context.place) j.context.place
      (caller_executes S (JobCalls j) e).state
      (executed_in ((caller_executes S (JobCalls j) e).events ++ rest)) =
      executed_done who (JobCalls j) calls j.context what rest in
      record {
        moves = λ k.
            subst (λ b. Moves k b e.jobs x.jobs)
            (sym (ap (λ o. leaves_by S k o x.jobs) done.is
            ∙ ap (λ b. b || ((k == j.id.task) && one_waits k x.jobs))
            (told_number k j.id.task (ends_with what done.outcome))))
            (done.served.moves k);
        stays = executed_due who (JobCalls j) calls j.context what;
        by = λ k. ap (is_by (Owner.Task k)) done.is;
        leaver = λ k h.
            own_task k j.id.task (ends_with what done.outcome) (one_waits k x.jobs)
            (sym (ap (λ o. leaves_by S k o x.jobs) done.is
            ∙ ap (λ b. b || ((k == j.id.task) && one_waits k x.jobs))
            (told_number k j.id.task (ends_with what done.outcome))) ∙ h);
      }

  routine_executed : (a : Active) → IsCaller e (RoutineCalls a) → (rest : List TraceEvent)
      → HasExecuted (RoutineCalls a) (caller_executes S (RoutineCalls a) e).state
      (executed_in ((caller_executes S (RoutineCalls a) e).events ++ rest))
  routine_executed a calls rest =
      let who : Owner = Owner.Routine a.routine in
      let what : Instr = instruction_at S (Owner.Routine a.routine) a.context.place in
      let x : State = (caller_executes S (RoutineCalls a) e).state in
      let done : HasDone (RoutineCalls a) (Owner.Routine a.routine)
      (instruction_at S (Owner.Routine a.routine) a.context.place) a.context.place
      (caller_executes S (RoutineCalls a) e).state
      (executed_in ((caller_executes S (RoutineCalls a) e).events ++ rest)) =
      executed_done who (RoutineCalls a) calls a.context what rest in
      record {
        moves = λ k.
            subst (λ b. Moves k b e.jobs x.jobs)
            (sym (ap (λ o. leaves_by S k o x.jobs) done.is
            ∙ ap (λ b. b || false) (told_none k (ends_with what done.outcome))))
            (done.served.moves k);
        stays = executed_due who (RoutineCalls a) calls a.context what;
        by = λ k. ap (is_by (Owner.Task k)) done.is;
        leaver = λ k h.
            clash
            (sym h ∙ ap (λ o. leaves_by S k o x.jobs) done.is
            ∙ ap (λ b. b || false) (told_none k (ends_with what done.outcome)));
      }

  caller_executed : (c : Caller) → IsCaller e c → (rest : List TraceEvent) → NoneExecuted rest
      → HasExecuted c (caller_executes S c e).state
      (executed_in ((caller_executes S c e).events ++ rest))
  caller_executed (JobCalls j) calls rest none = job_executed j calls rest
  caller_executed (RoutineCalls a) calls rest none = routine_executed a calls rest
  caller_executed NobodyCalls calls rest none = record {
    moves = λ k.
        subst (λ b. Moves k b e.jobs e.jobs)
        (sym (ap (λ o. leaves_by S k o e.jobs) (none_told rest none)))
        ((same_moved S e single ready NobodyCalls calls e refl).moves k);
    stays = inl (λ n h. h);
    by = λ k. ap (is_by (Owner.Task k)) (none_told rest none);
    leaver = λ k h. clash (sym h ∙ ap (λ o. leaves_by S k o e.jobs) (none_told rest none));
  }

  pub execute_executed : (rest : List TraceEvent) → NoneExecuted rest
      → HasExecuted (executor e) (execute_phase S e).state
      (executed_in ((execute_phase S e).events ++ rest))
  unfolding execute_phase
  execute_executed rest none = caller_executed (executor e) (executor_calls e) rest none
