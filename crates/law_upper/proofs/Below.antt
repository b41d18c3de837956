-- In a tick whose instruction a lower task executes no upper task stands ready.
use Rattle.std.proofs.Common.{◌≡◌, ℕ, ◌<◌, Bool, true, false, cond, not, ◌&&◌, ◌||◌, nat_le, List, [], ◌∷◌, length, refl, sym, ◌∙◌, ap, subst, arith, true≢false, ne_eqb}
use Rattle.std.specs.Prelude.{Option, Some, None, ◌==◌, is_some}
use Rattle.std.specs.List.{AllByRecursion, list_any}
use Rattle.std.specs.Option.{option_map}
use Rattle.osek_base.specs.declared.ids.Owner.{Owner}
use Rattle.osek_base.specs.declared.status.TaskState.{TaskState}
use Rattle.osek_base.specs.Agree.{upper_core}
use Rattle.osek_base.specs.Choice.{choice}
use Rattle.osek_base.specs.Lists.{is_empty}
use Rattle.osek_base.specs.Priority.{dynamic_priority}
use Rattle.osek_base.specs.Proper.{IsProper}
use Rattle.osek_base.specs.Reschedule.{Recorded, id_of, jobs_entered, reschedule, switched}
use Rattle.osek_base.specs.Separable.{Separable}
use Rattle.osek_base.specs.Service.{invalid_task, running_task, task_state}
use Rattle.osek_base.specs.State.{Active, Job, JobId, State, interrupts_off, job_of, jobs_of, may_dispatch, same_id, waits}
use Rattle.osek_base.specs.System.{System}
use Rattle.osek_base.specs.Tick.{alarm_phase, arrival_phase, before_execution, caller_of, job_caller, routine_choice, routine_started, start_phase, tick}
use Rattle.osek_base.specs.Upper.{is_upper_task}
use Rattle.osek_base.proofs.ForemostLemmas.{best, better, foremost-best, keep}
use Rattle.law_runs.proofs.Foremost.{equal, same_ids}
use Rattle.law_runs.proofs.Lists.{all_any, all_kept, found}
use Rattle.partition_check.proofs.Core.{counterpart, low}
use Rattle.partition_check.proofs.PriorityUp.{first_tasks}
use Rattle.partition_check.proofs.ResultsUp.{task_state_up}
use Rattle.partition_check.proofs.Shared.{IsCounterpart, IsLayered, IsLow}
use Rattle.partition_check.proofs.TickUp.{before_alike}
use Rattle.partition_check.proofs.UpperState.{is_ready_job, is_upper_id, up, upper_count}
use Rattle.seen_ticks.specs.Observed.{state_seen}
use Rattle.law_upper.specs.StatesAbove.{executes, is_caller}
use Rattle.law_figures.specs.Blocking.{stands_ready}

-- ---- where nothing is chosen all jobs wait

abbrev pub AllWait : List Job → Type 0
AllWait jobs = AllByRecursion (λ j. waits j ≡ true) jobs

none_better : (rank : Job → ℕ) (j : Job) (b : Bool) (o : Option Job)
    → better rank (not b) j o ≡ None → (b ≡ true) × (o ≡ None)
none_better rank j true o none = (refl, none)
none_better rank j false None none = absurd (grind arith)
none_better rank j false (Some k) none = absurd (either (nat_le (rank k) (rank j)) none)
  where
    either : (b : Bool) → cond b (Some j) (Some k) ≡ None → ⊥
    either true e = grind arith
    either false e = grind arith

all_wait : (rank : Job → ℕ) (jobs : List Job) → best is_ready_job rank jobs ≡ None → AllWait jobs
all_wait rank [] none = tt
all_wait rank (j ∷ jobs) none =
    let both = none_better rank j (waits j) (best is_ready_job rank jobs) none in
    (both.0, all_wait rank jobs both.1)

none_of : (o : Option Job) → option_map id_of o ≡ None → o ≡ None
none_of None none = refl
none_of (Some j) none = absurd (grind arith)

-- ---- a task whose jobs all wait is neither ready nor running, where nobody runs

abbrev is_settled : TaskState → Bool
is_settled TaskState.Waiting = true
is_settled TaskState.Suspended = true
is_settled _ = false

settled_of : (jobs : List Job) → AllWait jobs
    → is_settled (cond (list_any waits jobs) TaskState.Waiting
    (cond (is_empty jobs) TaskState.Suspended TaskState.Ready)) ≡ true
settled_of [] all = refl
settled_of (j ∷ jobs) all =
    ap (λ (b : Bool).
    is_settled (cond (b || list_any waits jobs) TaskState.Waiting TaskState.Ready)) all.0

unready : (b : Bool) (state : TaskState) → is_settled state ≡ true
    → stands_ready (state_seen b state) ≡ false
unready true state settled = refl
unready false TaskState.Waiting settled = refl
unready false TaskState.Suspended settled = refl
unready false TaskState.Running settled = absurd (true≢false (sym settled))
unready false TaskState.Ready settled = absurd (true≢false (sym settled))

-- ---- who executes

-- no routine is active, and a job of that task runs
record IsRun (a : Option Active) (o : Option JobId) (u : ℕ) : Type 0 where
  job : JobId
  idle : a ≡ None
  runs : o ≡ Some job
  task : job.task ≡ u

run_of : (a : Option Active) (o : Option JobId) (jobs : List Job) (u : ℕ)
    → is_caller (Owner.Task u) (caller_of a o jobs) ≡ true → IsRun a o u
run_of (Some a) o jobs u calls = absurd (true≢false (sym calls))
run_of None None jobs u calls = absurd (true≢false (sym calls))
run_of None (Some r) jobs u calls = go (job_of r jobs) refl calls
  where
    go : (o : Option Job) → job_of r jobs ≡ o → is_caller (Owner.Task u) (job_caller o) ≡ true
        → IsRun None (Some r) u
    go None e here = absurd (true≢false (sym here))
    go (Some j) e here =
        let all = all_any (λ (k : Job). Unit {0}) jobs (λ k. tt) in
        let same : j.id ≡ r =
        same_ids j.id r (found (λ (k : Job). Unit {0}) (λ k. same_id k.id r) jobs j all e).1 in
        record {
          job = r;
          idle = refl;
          runs = refl;
          task = sym (ap (λ (n : JobId). n.task) same) ∙ equal j.id.task u here;
        }

-- ---- a reschedule and the start of a routine

on_and_idle : (a : Option Active) (off : Bool) → a ≡ None → off ≡ false
    → (not (is_some a) && not off) ≡ true
on_and_idle a off none on = rw (none, on) refl

-- with no routine active behind the start of one there was none before
was_idle : (s : State) (o : Option ℕ) (b : Bool)
    → (cond b (routine_started o s) s).active ≡ None → s.active ≡ None
was_idle s None true h = h
was_idle s (Some i) true h = absurd (grind arith)
was_idle s o false h = h

module _ (S : System) (s : State) where
  abbrev by : Bool → Recorded
  by b = cond b (switched S (choice S s.jobs) s) (record { events = []; state = s })

  chosen_runs : may_dispatch s ≡ true
      → (reschedule S s).state.running ≡ option_map id_of (choice S s.jobs)
  unfolding reschedule
  chosen_runs may = ap (λ b. (by b).state.running) may

  jobs_behind : may_dispatch s ≡ true
      → (reschedule S s).state.jobs ≡ jobs_entered S (choice S s.jobs) s.jobs
  unfolding reschedule
  jobs_behind may = ap (λ b. (by b).state.jobs) may

  abbrev started : State
  started = start_phase S (reschedule S s).state

  idle_before : started.active ≡ None → s.active ≡ None
  unfolding start_phase reschedule
  idle_before idle =
      let d : State = (reschedule S s).state in
      was_idle d (routine_choice S d) (may_dispatch d) idle

  off_before : interrupts_off started ≡ interrupts_off s
  unfolding start_phase reschedule
  off_before = refl

  same_running : started.running ≡ (reschedule S s).state.running
  unfolding start_phase
  same_running = refl

  same_jobs : started.jobs ≡ (reschedule S s).state.jobs
  unfolding start_phase
  same_jobs = refl

  -- so where nobody executes with interrupts on, all jobs wait
  none_left : started.active ≡ None → interrupts_off started ≡ false → started.running ≡ None
      → AllWait started.jobs
  none_left idle on nobody =
      let may : may_dispatch s ≡ true =
      on_and_idle s.active (interrupts_off s) (idle_before idle) (sym off_before ∙ on) in
      let none : choice S s.jobs ≡ None =
      none_of (choice S s.jobs) (sym (chosen_runs may) ∙ sym same_running ∙ nobody) in
      let jobs : started.jobs ≡ s.jobs =
      same_jobs ∙ jobs_behind may ∙ ap (λ o. jobs_entered S o s.jobs) none in
      subst AllWait (sym jobs)
      (all_wait (dynamic_priority S) s.jobs
      (sym (foremost-best is_ready_job (dynamic_priority S) s.jobs) ∙ none))

-- ---- a tick

module _ (S : System) (p : ℕ) (proper : IsProper S) (separable : Separable S p)
    (arrived : List ℕ) (s : State) (layered : IsLayered S p s) where
  both : IsCounterpart S p
  both = counterpart S p proper separable

  below : IsLow S p
  below = low S p proper separable

  abbrev ready : State
  ready = (before_execution S arrived s).state

  abbrev core : System
  core = upper_core S p

  ready_layered : IsLayered S p ready
  ready_layered = (before_alike S p both below proper separable arrived s layered).layered

  same_above : up S p ready ≡ (before_execution core arrived (up S p s)).state
  same_above = (before_alike S p both below proper separable arrived s layered).state

  module _ (r : JobId) (idle : ready.active ≡ None) (runs : ready.running ≡ Some r)
      (is_low : is_upper_id S p r ≡ false) where
    none_runs : (up S p ready).running ≡ None
    none_runs =
        ap (keep (is_upper_id S p)) runs ∙ ap (λ (b : Bool). cond b (Some r) None) is_low

    waiting : AllWait (up S p ready).jobs
    waiting =
        subst (λ (t : State). AllWait t.jobs) (sym same_above)
        (none_left core (arrival_phase arrived (alarm_phase core (up S p s)).state)
        (sym (ap (λ (t : State). t.active) same_above) ∙ idle)
        (sym (ap interrupts_off same_above) ∙ ready_layered.quiet r runs is_low idle)
        (sym (ap (λ (t : State). t.running) same_above) ∙ none_runs))

    settled : (t : ℕ) → t < upper_count S p → is_upper_task S p t ≡ true
        → is_settled (task_state ready t) ≡ true
    settled t first high =
        let jobs : List Job = jobs_of t (up S p ready).jobs in
        let nobody : (running_task (up S p ready).running == t) ≡ false =
        ap (λ o. running_task o == t) none_runs
        ∙ ne_eqb invalid_task t (λ e. omega (arith, e, first, both.few)) in
        ap is_settled (sym (task_state_up S p both ready t first high))
        ∙ ap (λ (b : Bool). is_settled (cond b TaskState.Running
        (cond (list_any waits jobs) TaskState.Waiting
        (cond (is_empty jobs) TaskState.Suspended TaskState.Ready)))) nobody
        ∙ settled_of jobs
        (all_kept (λ j. waits j ≡ true) (λ j. j.id.task == t) (up S p ready).jobs waiting)

  -- who executes is of the system
  pub known : (u : ℕ) → executes (tick S arrived s).executing (Owner.Task u) ≡ true
      → u < length S.tasks
  unfolding tick
  known u here =
      let run = run_of ready.active ready.running ready.jobs u here in
      subst (λ n. n < length S.tasks) run.task (ready_layered.running run.job run.runs)

  -- where it is a lower task, all upper jobs wait
  pub all_wait_above : (u : ℕ) → executes (tick S arrived s).executing (Owner.Task u) ≡ true
      → is_upper_task S p u ≡ false → AllWait (up S p (tick S arrived s).executing).jobs
  unfolding tick
  all_wait_above u here is_low =
      let run = run_of ready.active ready.running ready.jobs u here in
      waiting run.job run.idle run.runs (ap (is_upper_task S p) run.task ∙ is_low)

  pub none_ready : (u t : ℕ) → executes (tick S arrived s).executing (Owner.Task u) ≡ true
      → is_upper_task S p u ≡ false → t < length S.tasks → is_upper_task S p t ≡ true → (b : Bool)
      → stands_ready (state_seen b (task_state (tick S arrived s).executing t)) ≡ false
  unfolding tick
  none_ready u t here is_low inside high b =
      let run = run_of ready.active ready.running ready.jobs u here in
      unready b (task_state ready t)
      (settled run.job run.idle run.runs (ap (is_upper_task S p) run.task ∙ is_low) t
      (first_tasks S p both t inside high) high)
