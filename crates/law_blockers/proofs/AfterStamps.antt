-- Phases 5 and 6 of a tick: the lists of stamps behind the instruction, behind the last reschedule, and in runs.
use Rattle.std.proofs.Common.{◌≡◌, ℕ, suc, ◌+◌, ◌<◌, ◌≤◌, ◌⊎◌, inl, inr, Bool, true, false, cond, not, ◌&&◌, List, [], length, refl, sym, ◌∙◌, ap, ap₂, subst, arith}
use Rattle.std.specs.Prelude.{Option, Some, None, ◌==◌, slice_index}
use Rattle.std.specs.Option.{option_map}
use Rattle.std.proofs.lemmas.Bool.{cases_lt}
use Rattle.osek_base.specs.declared.arrivals.Arrival.{Arrival}
use Rattle.osek_base.specs.declared.ids.Owner.{Owner}
use Rattle.osek_base.specs.declared.instr.Instr.{Instr}
use Rattle.osek_base.specs.System.{System, instruction_at}
use Rattle.osek_base.specs.State.{JobId, State, Active, may_dispatch}
use Rattle.osek_base.specs.Choice.{choice}
use Rattle.osek_base.specs.Reschedule.{switched, with_dispatch_of, reschedule}
use Rattle.osek_base.specs.Blocker.{is_in_state, waits_in, is_job, calling_job}
use Rattle.osek_base.specs.Service.{Caller, JobCalls, RoutineCalls, NobodyCalls}
use Rattle.osek_base.specs.Tick.{before_execution, caller_executes, executor, execute_phase, last_phase, tick}
use Rattle.osek_base.specs.Trace.{arriving, run}
use Rattle.osek_base.specs.Proper.{IsProper}
use Rattle.law_runs.proofs.Lists.{clash}
use Rattle.law_runs.proofs.Known.{IsCaller, executor_calls}
use Rattle.law_runs.proofs.SingleTick.{any_instr_known, execute_single}
use Rattle.law_runs.proofs.RankedTick.{IsRunState, IsExecuting, before_executing, execute_left, run_ordered}
use Rattle.law_runs.proofs.Formed.{HasForm}
use Rattle.law_runs.proofs.FormedPhases.{before_form}
use Rattle.law_runs.proofs.FormedTick.{run_form}
use Rattle.law_kept.specs.Kept.{Kept, Slot, kept}
use Rattle.law_kept.specs.KeptService.{KeptCaller, kept_caller}
use Rattle.law_kept.specs.KeptTick.{execute_phase_in}
use Rattle.law_kept.specs.Moves.{KeptRecorded}
use Rattle.law_kept.proofs.Settled.{IsSettled, AreKnown, reschedules}
use Rattle.law_kept.proofs.Ticked.{settled_of, known_of, execute_kept}
use Rattle.law_kept.proofs.Served.{executor_kept}
use Rattle.law_kept.proofs.Tests.{caller_slot}
use Rattle.kernel_stamps.specs.Stamps.{without_oldest}
use Rattle.law_blockers.specs.Steps.{step_at}
use Rattle.law_blockers.specs.Stamps.{Stamps, stamped, spent, stamps_in, stamps_of}
use Rattle.law_blockers.specs.Restamping.{StampLists, stamps_at, changed_list, task_waits, restamped, restamped_if, preempted, spent_of, instr_in, named_in, ended_of, ended_if, execute_restamped, reschedule_restamped, last_restamped, after_restamped, AreListed}
use Rattle.law_blockers.proofs.StampLemmas.{Going, state_more}
use Rattle.law_blockers.proofs.WakeLemmas.{IsOneChange}
use Rattle.law_blockers.proofs.PreemptLemmas.{entering, entering_id, entering_waits, entered_are, reschedule_preempted}
use Rattle.law_blockers.proofs.ListLemmas.{changed_any, changed_inside, changed_count, preempted_lists, twice_lists, alike_lists}
use Rattle.law_blockers.proofs.FreshStamps.{stamps_in_fresh}
use Rattle.law_blockers.proofs.SameJobs.{there_alike, waiting_alike}
use Rattle.law_blockers.proofs.SpentStamps.{spent_here, spent_at, spent_many, spent_listed, spent_new}
use Rattle.law_blockers.proofs.EndStamps.{IsTold, AreNew, restamped_here, ended_here, executed_here}
use Rattle.law_blockers.proofs.ServiceStamps.{HasNone, none_of_known, still_told, executed_told, executed_none}
use Rattle.law_blockers.proofs.RunnerKept.{execute_running}

-- ---- the lists of all tasks

-- of a task that isn't there, nothing comes of no stamps
none_restamped : (u n : ℕ) (w x : Bool) → n ≡ 0 → restamped u n w x [] ≡ []
none_restamped u n w x none = rw none (go w x)
  where
    go : (w x : Bool) → cond {A = List (Option ℕ)} (w && not x) [] [] ≡ []
    go true true = refl
    go true false = refl
    go false x = refl

restamped_if_at : (u : ℕ) (named : Option ℕ) (old new : Kept) (xs : StampLists) (v : ℕ)
    → ((t : ℕ) → length xs ≤ t → (new.slots t).count ≡ 0)
    → stamps_at (restamped_if u named old new xs) v ≡ restamped_here u named old new v (stamps_at xs v)
restamped_if_at u None old new xs v none = refl
restamped_if_at u (Some t) old new xs v none = go (cases_lt t (length xs))
  where
    look : List (Option ℕ) → List (Option ℕ)
    look = restamped u (new.slots t).count (task_waits old t) (task_waits new t)

    go : (t < length xs) ⊎ (length xs ≤ t) → stamps_at (changed_list t look xs) v
        ≡ cond (t == v) (look (stamps_at xs v)) (stamps_at xs v)
    go (inl inside) = changed_inside look xs t v inside
    go (inr past) =
        changed_any look (none_restamped u (new.slots t).count (task_waits old t) (task_waits new t) (none t past)) xs t v

restamped_if_many : (u : ℕ) (named : Option ℕ) (old new : Kept) (xs : StampLists) → length (restamped_if u named old new xs) ≡ length xs
restamped_if_many u None old new xs = refl
restamped_if_many u (Some t) old new xs = changed_count (restamped u (new.slots t).count (task_waits old t) (task_waits new t)) xs t

ended_at : (r : Option ℕ) (gone : Bool) (xs : StampLists) (v : ℕ)
    → stamps_at (ended_of r gone xs) v ≡ ended_here r gone v (stamps_at xs v)
ended_at None gone xs v = refl
ended_at (Some t) true xs v = changed_any without_oldest refl xs t v
ended_at (Some t) false xs v = refl

ended_many : (r : Option ℕ) (gone : Bool) (xs : StampLists) → length (ended_of r gone xs) ≡ length xs
ended_many None gone xs = refl
ended_many (Some t) true xs = changed_count without_oldest xs t
ended_many (Some t) false xs = refl

-- behind an instruction, by who executes, the task that it names and what is kept then
abbrev pub lists_by : ℕ → Kept → KeptCaller → Option ℕ → Kept → StampLists → StampLists
lists_by u old d named new xs = restamped_if u named old new (ended_if old new (spent_of d xs))

by_many : (u : ℕ) (old : Kept) (d : KeptCaller) (named : Option ℕ) (new : Kept) (xs : StampLists)
    → length (lists_by u old d named new xs) ≡ length xs
by_many u old d named new xs =
    restamped_if_many u named old new (ended_if old new (spent_of d xs))
    ∙ ended_many old.running (not old.gone && new.gone) (spent_of d xs) ∙ spent_many d xs

by_at : (u : ℕ) (old : Kept) (d : KeptCaller) (named : Option ℕ) (new : Kept) (xs : StampLists) (v : ℕ)
    → ((t : ℕ) → length xs ≤ t → (new.slots t).count ≡ 0)
    → stamps_at (lists_by u old d named new xs) v ≡ executed_here u named old new v (spent_here d v (stamps_at xs v))
by_at u old d named new xs v none =
    restamped_if_at u named old new (ended_if old new (spent_of d xs)) v
    (λ t past. none t (subst (λ n. n ≤ t)
    (ended_many old.running (not old.gone && new.gone) (spent_of d xs) ∙ spent_many d xs) past))
    ∙ ap (restamped_here u named old new v)
    (ended_at old.running (not old.gone && new.gone) (spent_of d xs) v
    ∙ ap (ended_here old.running (not old.gone && new.gone) v) (spent_at d xs v))

-- ---- who executes, and what

abbrev pub instr_of : System → Caller → Option Instr
instr_of S (JobCalls j) = Some (instruction_at S (Owner.Task j.id.task) j.context.place)
instr_of S (RoutineCalls a) = Some (instruction_at S (Owner.Routine a.routine) a.context.place)
instr_of S NobodyCalls = None

instr_is : (S : System) (e : State) → IsSettled S e → AreKnown S e → (c : Caller) → IsCaller e c
    → instr_in S (kept_caller c) (kept S e) ≡ instr_of S c
instr_is S e settled known (JobCalls j) calls =
    ap (λ (a : Slot). Some (instruction_at S (Owner.Task j.id.task) a.context.place)) (caller_slot S e settled known j calls).1
instr_is S e settled known (RoutineCalls a) calls =
    ap (λ (o : Option Active). option_map (λ b. instruction_at S (Owner.Routine b.routine) b.context.place) o) calls
instr_is S e settled known NobodyCalls calls = refl

-- ---- phase 5

module _ (S : System) (proper : IsProper S) (e : State) (executing : IsExecuting S proper e) (form : HasForm S e) (u : ℕ)
    (p : Stamps)
    (new : AreNew p e) where
  settled : IsSettled S e
  settled = settled_of S e executing.good.single executing.good.ordered.ranked

  known : AreKnown S e
  known = known_of S e form

  caller_told : (c : Caller) → IsCaller e c
      → IsTold S u (named_in (instr_of S c)) e (caller_executes S c e).state (spent (calling_job c) p)
  caller_told (JobCalls j) calls =
      executed_told S e u (spent (Some j) p) proper settled form
      (λ t. spent_new S e settled p (JobCalls j) (record { task = t; serial = slice_index e.made t }) (new t))
      (Owner.Task j.id.task) (JobCalls j)
      j.context (instruction_at S (Owner.Task j.id.task) j.context.place) calls
  caller_told (RoutineCalls a) calls =
      executed_told S e u p proper settled form new (Owner.Routine a.routine) (RoutineCalls a) a.context
      (instruction_at S (Owner.Routine a.routine) a.context.place) calls
  caller_told NobodyCalls calls = still_told S e u p None e refl refl refl

  caller_none : (c : Caller) → IsCaller e c → HasNone S (caller_executes S c e).state
  caller_none (JobCalls j) calls =
      executed_none S e u p proper settled form new (Owner.Task j.id.task) (JobCalls j) j.context
      (instruction_at S (Owner.Task j.id.task) j.context.place) calls
      (any_instr_known S (Owner.Task j.id.task) j.context.place proper)
  caller_none (RoutineCalls a) calls =
      executed_none S e u p proper settled form new (Owner.Routine a.routine) (RoutineCalls a) a.context
      (instruction_at S (Owner.Routine a.routine) a.context.place) calls
      (any_instr_known S (Owner.Routine a.routine) a.context.place proper)
  caller_none NobodyCalls calls = none_of_known S e form.formed.jobs

  phase_told : IsTold S u (named_in (instr_of S (executor e))) e (execute_phase S e).state (spent (calling_job (executor e)) p)
  unfolding execute_phase
  phase_told = caller_told (executor e) (executor_calls e)

  phase_none : HasNone S (execute_phase S e).state
  unfolding execute_phase
  phase_none = caller_none (executor e) (executor_calls e)

  restamped_is : (xs : StampLists)
      → execute_restamped S u (kept S e) xs
      ≡ lists_by u (kept S e) (kept_caller (executor e)) (named_in (instr_of S (executor e))) (kept S (execute_phase S e).state) xs
  restamped_is xs =
      ap (λ d. lists_by u (kept S e) d (named_in (instr_in S d (kept S e))) (execute_phase_in S (kept S e)).state xs)
      (sym (executor_kept S e))
      ∙ ap₂ (λ i k. lists_by u (kept S e) (kept_caller (executor e)) (named_in i) k xs)
      (instr_is S e settled known (executor e) (executor_calls e))
      (sym (ap (λ (r : KeptRecorded). r.state) (execute_kept S proper e executing known)))

  pub executed_listed : (xs : StampLists) → AreListed S xs p e
      → AreListed S (execute_restamped S u (kept S e) xs)
      (stamped e (execute_phase S e).state u (spent (calling_job (executor e)) p)) (execute_phase S e).state
  executed_listed xs are =
      subst
      (λ ys. AreListed S ys (stamped e (execute_phase S e).state u (spent (calling_job (executor e)) p)) (execute_phase S e).state)
      (sym (restamped_is xs))
      (record {
        count = by_many u (kept S e) (kept_caller (executor e)) (named_in (instr_of S (executor e)))
            (kept S (execute_phase S e).state) xs ∙ are.count;
        lists = λ v.
            by_at u (kept S e) (kept_caller (executor e)) (named_in (instr_of S (executor e)))
            (kept S (execute_phase S e).state) xs v
            (λ t past. phase_none t (subst (λ n. n ≤ t) are.count past))
            ∙ ap (executed_here u (named_in (instr_of S (executor e))) (kept S e) (kept S (execute_phase S e).state) v)
            (ap (spent_here (kept_caller (executor e)) v) (are.lists v)
            ∙ sym (spent_listed S e settled p (executor e) (executor_calls e) v))
            ∙ sym (phase_told v);
      })

-- ---- phase 6

-- a reschedule makes no job, ends none, and wakes none
module _ (S : System) (m : State) (n : JobId) where
  pub rescheduled_there : is_in_state (reschedule S m).state n ≡ is_in_state m n
  unfolding reschedule
  rescheduled_there = go (may_dispatch m)
    where
      go : (b : Bool)
          → is_in_state (with_dispatch_of m
          (cond b (switched S (choice S m.jobs) m) (record { events = []; state = m }))).state n ≡ is_in_state m n
      go true =
          there_alike m (with_dispatch_of m (switched S (choice S m.jobs) m)).state (entering S (choice S m.jobs))
          (entering_id S (choice S m.jobs)) (entered_are S (choice S m.jobs) m.jobs) n
      go false = refl

  pub rescheduled_waits : waits_in (reschedule S m).state n ≡ waits_in m n
  unfolding reschedule
  rescheduled_waits = go (may_dispatch m)
    where
      go : (b : Bool)
          → waits_in (with_dispatch_of m (cond b (switched S (choice S m.jobs) m)
          (record { events = []; state = m }))).state n ≡ waits_in m n
      go true =
          waiting_alike m (with_dispatch_of m (switched S (choice S m.jobs) m)).state (entering S (choice S m.jobs))
          (entering_id S (choice S m.jobs)) (entered_are S (choice S m.jobs) m.jobs)
          (entering_waits S (choice S m.jobs)) n
      go false = refl

-- so a change before it, by which the running job stays the same, and the reschedule are one change
pub rescheduled_one : (S : System) (e m : State) → m.running ≡ e.running → (n : JobId) → IsOneChange e m (reschedule S m).state n
rescheduled_one S e m running n = record {
  made = λ i j. clash (sym i ∙ rescheduled_there S m n ∙ j);
  waited = λ i w x. clash (sym w ∙ sym (rescheduled_waits S m n) ∙ x);
  calm = λ h. sym (rescheduled_waits S m n) ∙ h;
  running = ap (λ r. is_job r n) running;
}

module _ (S : System) (e m : State) (u : ℕ) (p : Stamps) (settled : IsSettled S m) (running : m.running ≡ e.running) where
  pub last_listed : (xs : StampLists) → AreListed S xs (stamped e m u p) m
      → AreListed S (last_restamped S u (kept S m) xs) (stamped e (last_phase S m).state u p) (last_phase S m).state
  last_listed xs are = go m.over
    where
      again : AreListed S (preempted u (kept S m) (kept S (reschedule S m).state) xs)
          (stamped e (reschedule S m).state u p) (reschedule S m).state
      again =
          twice_lists S e m (reschedule S m).state u p (preempted u (kept S m) (kept S (reschedule S m).state) xs)
          (preempted_lists S m (reschedule S m).state u (stamped e m u p) xs are
          (reschedule_preempted S m u (stamped e m u p) settled.single))
          (λ n there. rescheduled_one S e m running n)

      go : (b : Bool)
          → AreListed S (cond b xs (reschedule_restamped S u (kept S m) xs))
          (stamped e (cond b (record { events = []; state = m }) (reschedule S m)).state u p)
          (cond b (record { events = []; state = m }) (reschedule S m)).state
      go true = are
      go false =
          subst (λ (k : KeptRecorded). AreListed S (preempted u (kept S m) k.state xs)
          (stamped e (reschedule S m).state u p) (reschedule S m).state)
          (reschedules S m settled) again

-- ---- phases 5 and 6

module _ (S : System) (proper : IsProper S) (e : State) (executing : IsExecuting S proper e) (form : HasForm S e) (u : ℕ)
    (p : Stamps)
    (new : AreNew p e) where
  pub from_execution_listed : (xs : StampLists) → AreListed S xs p e
      → AreListed S (after_restamped S u (kept S e) xs)
      (stamped e (last_phase S (execute_phase S e).state).state u (spent (calling_job (executor e)) p))
      (last_phase S (execute_phase S e).state).state
  from_execution_listed xs are =
      subst
      (λ (k : Kept). AreListed S (last_restamped S u k (execute_restamped S u (kept S e) xs))
      (stamped e (last_phase S (execute_phase S e).state).state u (spent (calling_job (executor e)) p))
      (last_phase S (execute_phase S e).state).state)
      (ap (λ (r : KeptRecorded). r.state) (execute_kept S proper e executing (known_of S e form)))
      (last_listed S e (execute_phase S e).state u (spent (calling_job (executor e)) p)
      (settled_of S (execute_phase S e).state (execute_single S proper e executing.good.single)
      (execute_left S proper e executing).ranked)
      (execute_running S e) (execute_restamped S u (kept S e) xs) (executed_listed S proper e executing form u p new xs are))

-- ---- a tick

module _ (S : System) (proper : IsProper S) (arrived : List ℕ) (s : State) (good : IsRunState S s) (form : HasForm S s)
    (u : ℕ) (p : Stamps) where
  pub tick_listed : AreNew p (tick S arrived s).executing → (xs : StampLists) → AreListed S xs p (tick S arrived s).executing
      → AreListed S (after_restamped S u (kept S (tick S arrived s).executing) xs)
      (stamped (tick S arrived s).executing (tick S arrived s).after u
      (spent (calling_job (executor (tick S arrived s).executing)) p))
      (tick S arrived s).after
  unfolding tick
  tick_listed new xs are =
      let e : State = (before_execution S arrived s).state in
      let a : State = (last_phase S (execute_phase S (before_execution S arrived s).state).state).state in
      alike_lists S (before_execution S arrived s).state
      (last_phase S (execute_phase S (before_execution S arrived s).state).state).state
      (record a { tick = a.tick + 1 }) u (spent (calling_job (executor (before_execution S arrived s).state)) p)
      (after_restamped S u (kept S (before_execution S arrived s).state) xs)
      (from_execution_listed S proper (before_execution S arrived s).state (before_executing S proper arrived s good)
      (before_form S proper arrived s form) u p new xs are) refl refl

-- ---- runs

module _ (S : System) (proper : IsProper S) (mode : ℕ) (arrivals : List Arrival) (n : ℕ) (going : Going S mode arrivals n)
    (xs : StampLists)
    (are : AreListed S xs (stamps_in S mode arrivals n (stamps_of S mode arrivals n)) (step_at S mode arrivals n).executing) where
  pub after_listed : AreListed S (after_restamped S (suc n) (kept S (step_at S mode arrivals n).executing) xs)
      (stamps_of S mode arrivals (suc n)) (step_at S mode arrivals n).after
  after_listed =
      let s : State = (run S mode arrivals n).state in
      tick_listed S proper (arriving arrivals s.tick) s (run_ordered S proper mode arrivals n)
      (run_form S proper mode arrivals n) (suc n)
      (stamps_in S mode arrivals n (stamps_of S mode arrivals n))
      (λ t. stamps_in_fresh S proper mode arrivals n going t (slice_index (step_at S mode arrivals n).executing.made t)
      (omega arith))
      xs are

  pub run_listed : AreListed S (after_restamped S (suc n) (kept S (step_at S mode arrivals n).executing) xs)
      (stamps_of S mode arrivals (suc n)) (run S mode arrivals (suc n)).state
  run_listed =
      subst
      (AreListed S (after_restamped S (suc n) (kept S (step_at S mode arrivals n).executing) xs) (stamps_of S mode arrivals (suc n)))
      (sym (state_more S mode arrivals n going)) after_listed
