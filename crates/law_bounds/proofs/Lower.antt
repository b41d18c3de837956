-- While a job stands ready and one of lower static priority executes, its task is blocked.
use Rattle.std.proofs.Common.{◌≡◌, ℕ, zero, suc, ◌<◌, inl, inr, Bool, true, false, cond, ◌&&◌, ◌||◌, nat_lt, List, [], ◌∷◌, ◌++◌, map, length, refl, sym, ◌∙◌, ap, subst, arith, true≢false}
use Rattle.std.specs.Prelude.{Option, Some, None, ◌==◌, slice_index_or}
use Rattle.std.specs.List.{AllByRecursion, list_any}
use Rattle.std.specs.Option.{option_map}
use Rattle.std.proofs.lemmas.Bool.{lt-ltb}
use Rattle.std.proofs.lemmas.List.{length-map}
use Rattle.osek_base.specs.declared.arrivals.Arrival.{Arrival}
use Rattle.osek_base.specs.declared.executed.Executed.{Executed}
use Rattle.osek_base.specs.declared.ids.Owner.{Owner}
use Rattle.osek_base.specs.declared.instr.Instr.{Instr}
use Rattle.osek_base.specs.declared.status.TaskState.{TaskState}
use Rattle.osek_base.specs.declared.trace_event.TraceEvent.{TraceEvent}
use Rattle.osek_base.specs.Blocker.{calling_job, executing_job}
use Rattle.osek_base.specs.Instruction.{Context}
use Rattle.osek_base.specs.Lists.{is_empty, same_owner}
use Rattle.osek_base.specs.Priority.{static_priority}
use Rattle.osek_base.specs.Proper.{IsProper}
use Rattle.osek_base.specs.Service.{Caller, JobCalls, NobodyCalls, RoutineCalls, running_task, task_state}
use Rattle.osek_base.specs.State.{Job, JobId, State, jobs_of, same_id, waits}
use Rattle.osek_base.specs.System.{System, Task, is_extended, no_task, priority_of}
use Rattle.osek_base.specs.Tick.{before_execution, caller_executes, execute_phase, executed, executor, last_phase, tick}
use Rattle.osek_base.specs.Trace.{arriving, run}
use Rattle.law_runs.proofs.Counting.{is_lower, lower_in}
use Rattle.law_runs.proofs.Foremost.{equal, self_equal}
use Rattle.law_runs.proofs.Formed.{HasForm, IsPlacedJob}
use Rattle.law_runs.proofs.FormedPhases.{before_form}
use Rattle.law_runs.proofs.FormedTick.{run_form}
use Rattle.law_runs.proofs.Further.{run_tick as tick_of_run}
use Rattle.law_runs.proofs.Known.{IsCaller, IsRunningCaller, executor_calls}
use Rattle.law_runs.proofs.Lists.{EitherWay, all_both, all_weaker, clash, either_way, found, none_some, some_inside}
use Rattle.law_runs.proofs.RankedTick.{before_executing, run_ordered}
use Rattle.law_runs.proofs.Records.{NoneExecuted, none_before}
use Rattle.law_runs.proofs.Single.{IsSingle, IsSoundJob, IsSoundPair}
use Rattle.law_runs.proofs.Watched.{HasReadyJob, ready_all}
use Rattle.law_kept.specs.KeptTick.{KeptStep}
use Rattle.law_kept.proofs.Ticked.{ticks}
use Rattle.law_blockers.specs.Steps.{step_at}
use Rattle.seen_ticks.specs.Observed.{executed_in, is_by, owner_of, state_seen, tick_at}
use Rattle.law_seen.proofs.Shown.{runs_show}
use Rattle.view_figures.specs.FigureSums.{levels_of, lower_executes}
use Rattle.law_figures.specs.Blocking.{is_blocked_in, stands_ready}
use Rattle.law_bounds.specs.RunTicks.{run_tick}

-- ---- a task of which a job is ready doesn't wait

none_of : (t : ℕ) (jobs : List Job)
    → AllByRecursion (λ (j : Job). (j.id.task == t) ≡ true → waits j ≡ false) jobs
    → list_any waits (jobs_of t jobs) ≡ false
none_of t [] all = refl
none_of t (j ∷ jobs) all = go (j.id.task == t) refl (none_of t jobs all.1)
  where
    go : (b : Bool) → (j.id.task == t) ≡ b → list_any waits (jobs_of t jobs) ≡ false
        → list_any waits (cond b (j ∷ jobs_of t jobs) (jobs_of t jobs)) ≡ false
    go true e rest = λ i. all.0 e i || rest i
    go false e rest = rest

some_of : (n : JobId) (jobs : List Job) → HasReadyJob n jobs
    → is_empty (jobs_of n.task jobs) ≡ false
some_of n [] here = absurd here
some_of n (j ∷ jobs) here = go (j.id.task == n.task) refl here (some_of n jobs)
  where
    go : (b : Bool) → (j.id.task == n.task) ≡ b → HasReadyJob n (j ∷ jobs)
        → (HasReadyJob n jobs → is_empty (jobs_of n.task jobs) ≡ false)
        → is_empty (cond b (j ∷ jobs_of n.task jobs) (jobs_of n.task jobs)) ≡ false
    go true e h rest = refl
    go false e (inl is) rest =
        clash (sym (self_equal n.task) ∙ ap (λ (m : JobId). m.task == n.task) (sym is.0) ∙ e)
    go false e (inr later) rest = rest later

module _ (S : System) (s : State) (single : IsSingle S s) (n : JobId)
    (here : HasReadyJob n s.jobs) where
  -- a job of a basic task doesn't wait
  never : (j : Job) → IsSoundJob S s.made j → is_extended S j.id.task ≡ false → waits j ≡ false
  never j sound basic = go (waits j) refl
    where
      go : (b : Bool) → waits j ≡ b → waits j ≡ false
      go false e = e
      go true e = clash (sym (sound.extended e) ∙ basic)

  -- beside another one of its task, it is of a basic task
  beside : (z j : Job) → waits z ≡ false → z.id.task ≡ j.id.task
      → EitherWay (IsSoundPair S) z j → IsSoundJob S s.made j → waits j ≡ false
  beside z j idle same (inl pair) sound = never j sound (pair.basic same)
  beside z j idle same (inr (inl pair)) sound =
      never j sound (subst (λ t. is_extended S t ≡ false) same (pair.basic (sym same)))
  beside z j idle same (inr (inr is)) sound = ap waits (sym is) ∙ idle

  none_waits : list_any waits (jobs_of n.task s.jobs) ≡ false
  none_waits =
      let pairs = either_way (IsSoundPair S) s.jobs single.pairs in
      let it = ready_all (λ z. AllByRecursion (EitherWay (IsSoundPair S) z) s.jobs) n s.jobs pairs
      here in
      let z : Job = it.0 in
      none_of n.task s.jobs
      (all_weaker (λ j. EitherWay (IsSoundPair S) z j × IsSoundJob S s.made j)
      (λ j. (j.id.task == n.task) ≡ true → waits j ≡ false) s.jobs
      (λ j h of.
      beside z j it.1.2
      (ap (λ (m : JobId). m.task) it.1.1 ∙ sym (equal j.id.task n.task of)) h.0 h.1)
      (all_both (EitherWay (IsSoundPair S) z) (IsSoundJob S s.made) s.jobs it.1.0 single.each))

  -- so where it doesn't run it is READY
  stands : (running_task s.running == n.task) ≡ false → task_state s n.task ≡ TaskState.Ready
  stands other = rw (other, none_waits, some_of n s.jobs here) refl

-- ---- who executes is told

executed_behind : (before events : List TraceEvent) → NoneExecuted before
    → executed_in (before ++ events) ≡ executed_in events
executed_behind [] events none = refl
executed_behind (TraceEvent.Executed who place what outcome ∷ before) events none =
    absurd (true≢false none.0)
executed_behind (_ ∷ before) events none = executed_behind before events none.1

owner_told : (S : System) (who : Owner) (c : Caller) (x : Context) (what : Instr) (s : State)
    (rest : List TraceEvent)
    → option_map owner_of (executed_in ((executed S who c x what s).events ++ rest)) ≡ Some who
owner_told S who c x (Instr.Plain act) s rest = refl
owner_told S who c x (Instr.Service call) s rest = refl
owner_told S who c x (Instr.Control control) s rest = refl

phase_told : (S : System) (s : State) (k : Job) (rest : List TraceEvent) → executor s ≡ JobCalls k
    → option_map owner_of (executed_in ((execute_phase S s).events ++ rest))
    ≡ Some (Owner.Task k.id.task)
unfolding execute_phase
phase_told S s k rest by =
    ap (λ c. option_map owner_of (executed_in ((caller_executes S c s).events ++ rest))) by
    ∙ owner_told S (Owner.Task k.id.task) (JobCalls k) k.context _ s rest

tick_told : (S : System) (arrived : List ℕ) (s : State) (k : Job)
    → executor (before_execution S arrived s).state ≡ JobCalls k
    → option_map owner_of (executed_in (tick S arrived s).events) ≡ Some (Owner.Task k.id.task)
unfolding tick
tick_told S arrived s k by =
    let ready : State = (before_execution S arrived s).state in
    let last : List TraceEvent = (last_phase S (execute_phase S ready).state).events in
    ap (option_map owner_of)
    (executed_behind (before_execution S arrived s).events ((execute_phase S ready).events ++ last)
    (none_before S arrived s))
    ∙ phase_told S ready k last by

not_by : (u t : ℕ) (told : Option Executed) → option_map owner_of told ≡ Some (Owner.Task u)
    → (t == u) ≡ false → is_by (Owner.Task t) told ≡ false
not_by u t None owner other = absurd (none_some (Owner.Task u) owner)
not_by u t (Some e) owner other =
    ap (same_owner (Owner.Task t)) (some_inside e.owner (Owner.Task u) owner) ∙ other

-- ---- levels

level_is : (tasks : List Task) (t : ℕ)
    → slice_index_or (map (λ (a : Task). a.priority) tasks) t 0
    ≡ (slice_index_or tasks t no_task).priority
level_is [] zero = refl
level_is [] (suc t) = refl
level_is (a ∷ tasks) zero = refl
level_is (a ∷ tasks) (suc t) = level_is tasks t

lower_is : (S : System) (u t : ℕ) → u < length S.tasks
    → nat_lt (priority_of S u) (priority_of S t) ≡ true
    → lower_executes (levels_of S) (Some (Owner.Task u)) t ≡ true
lower_is S u t known low =
    let inside : nat_lt u (length (levels_of S)) ≡ true =
    lt-ltb u (length (levels_of S))
    (subst (λ n. u < n) (sym (length-map S.tasks (λ (a : Task). a.priority))) known) in
    (λ i. inside i && nat_lt (level_is S.tasks u i) (level_is S.tasks t i)) ∙ low

-- ---- a tick of a run

unequal : (a b : ℕ) → (a == b) ≡ false → (b == a) ≡ false
unequal a b h = grind (arith, h)

executing_from : (S : System) (arrived : List ℕ) (s : State)
    → (tick S arrived s).executing ≡ (before_execution S arrived s).state
unfolding tick
executing_from S arrived s = refl

module _ (S : System) (mode : ℕ) (arrivals : List Arrival) (n : ℕ) (proper : IsProper S)
    (going : (run S mode arrivals n).state.over ≡ false) where
  abbrev here : State
  here = (run S mode arrivals n).state

  abbrev ready : State
  ready = (before_execution S (arriving arrivals n) here).state

  at_is : (step_at S mode arrivals n).executing ≡ ready
  at_is =
      ap (λ t. (tick S (arriving arrivals t) here).executing) (tick_of_run S mode arrivals n going)
      ∙ executing_from S (arriving arrivals n) here

  single : IsSingle S ready
  single =
      (before_executing S proper (arriving arrivals n) here
      (run_ordered S proper mode arrivals n)).good.single

  form : HasForm S ready
  form = before_form S proper (arriving arrivals n) here (run_form S proper mode arrivals n)

  told : (k : Job) → executor ready ≡ JobCalls k
      → option_map owner_of (tick_at S mode arrivals n).executed ≡ Some (Owner.Task k.id.task)
  told k by =
      ap (option_map owner_of)
      ((runs_show S mode arrivals n proper going).executed
      ∙ sym (ap (λ (u : KeptStep). executed_in u.events)
      (ticks S mode arrivals n (arriving arrivals n) proper)))
      ∙ tick_told S (arriving arrivals n) here k by

  -- the job that executes is one of the task that does
  pub executor_told : (k : Job) → executing_job (step_at S mode arrivals n) ≡ Some k
      → option_map owner_of (tick_at S mode arrivals n).executed ≡ Some (Owner.Task k.id.task)
  executor_told k by =
      go (executor ready) refl (ap (λ s. calling_job (executor s)) (sym at_is) ∙ by)
    where
      go : (c : Caller) → executor ready ≡ c → calling_job c ≡ Some k
          → option_map owner_of (tick_at S mode arrivals n).executed ≡ Some (Owner.Task k.id.task)
      go (JobCalls j) e is =
          told j e ∙ ap (λ (x : Job). Some (Owner.Task x.id.task)) (some_inside j k is)
      go (RoutineCalls a) e is = absurd (none_some k is)
      go NobodyCalls e is = absurd (none_some k is)

  module _ (job : JobId) (waiting : HasReadyJob job ready.jobs) where
    by_lower : (k : Job) → executor ready ≡ JobCalls k
        → nat_lt (static_priority S k) (priority_of S job.task) ≡ true
        → is_blocked_in (run_tick S mode arrivals job.task n) ≡ true
    by_lower k by low =
        let calls : IsRunningCaller ready k = subst (IsCaller ready) by (executor_calls ready) in
        let other : (k.id.task == job.task) ≡ false = go (k.id.task == job.task) refl in
        let stopped : (running_task ready.running == job.task) ≡ false =
        ap (λ r. running_task r == job.task) calls.runs ∙ other in
        let state : task_state (tick_at S mode arrivals n).at job.task ≡ TaskState.Ready =
        ap (λ s. task_state s job.task) at_is ∙ stands S ready single job waiting stopped in
        let known : k.id.task < length S.tasks =
        (found (IsPlacedJob S) (λ (j : Job). same_id j.id k.id) ready.jobs k form.formed.jobs
        calls.found).0.task in
        let not_it : is_by (Owner.Task job.task) (tick_at S mode arrivals n).executed ≡ false =
        not_by k.id.task job.task (tick_at S mode arrivals n).executed (told k by)
        (unequal k.id.task job.task other) in
        (λ i.
        stands_ready (state_seen (not_it i) (state i))
        && lower_executes (levels_of S) (told k by i) job.task)
        ∙ lower_is S k.id.task job.task known low
      where
        go : (b : Bool) → (k.id.task == job.task) ≡ b → (k.id.task == job.task) ≡ false
        go false e = e
        go true e =
            let same : k.id.task ≡ job.task = equal k.id.task job.task e in
            let less : nat_lt (priority_of S job.task) (priority_of S job.task) ≡ true =
            subst (λ t. nat_lt (priority_of S t) (priority_of S job.task) ≡ true) same low in
            absurd (grind (arith, less))

    blocked_by : (c : Caller) → executor ready ≡ c
        → is_lower S (priority_of S job.task) (calling_job c) ≡ true
        → is_blocked_in (run_tick S mode arrivals job.task n) ≡ true
    blocked_by (JobCalls k) by low = by_lower k by low
    blocked_by (RoutineCalls a) by low = clash (sym low)
    blocked_by NobodyCalls by low = clash (sym low)

  -- where a job of lower static priority executes while a job stands ready, its task is blocked
  pub lower_blocks : (job : JobId) → HasReadyJob job (step_at S mode arrivals n).executing.jobs
      → lower_in S (priority_of S job.task) (step_at S mode arrivals n) ≡ true
      → is_blocked_in (run_tick S mode arrivals job.task n) ≡ true
  lower_blocks job waiting low =
      blocked_by job (subst (λ (s : State). HasReadyJob job s.jobs) at_is waiting) (executor ready)
      refl
      (ap (λ s. is_lower S (priority_of S job.task) (calling_job (executor s))) (sym at_is) ∙ low)
