-- A tick of a run: the jobs of a task that stand before it, at its instruction and behind it, and
-- what is seen of them.
use Rattle.std.proofs.Common.{◌≡◌, ℕ, suc, ◌-◌, ◌<◌, ◌≤◌, Bool, true, false, cond, min, not, ◌&&◌, ◌||◌, List, [], ◌∷◌, ◌++◌, length, refl, sym, ◌∙◌, ap, subst, arith}
use Rattle.std.specs.Prelude.{Option, ◌==◌}
use Rattle.osek_base.specs.declared.arrivals.Arrival.{Arrival}
use Rattle.osek_base.specs.declared.executed.Executed.{Executed}
use Rattle.osek_base.specs.declared.ids.Owner.{Owner}
use Rattle.osek_base.specs.declared.limits.TheConstants.{MAX_ACTIVATION}
use Rattle.osek_base.specs.declared.status.TaskState.{TaskState}
use Rattle.osek_base.specs.declared.status.TaskState.TheVariants.{Running, Waiting, Ready, Suspended}
use Rattle.osek_base.specs.declared.trace_event.TraceEvent.{TraceEvent}
use Rattle.osek_base.specs.Proper.{IsProper}
use Rattle.osek_base.specs.Reschedule.{reschedule}
use Rattle.osek_base.specs.Service.{Caller, JobCalls, NobodyCalls, RoutineCalls, task_state}
use Rattle.osek_base.specs.State.{State, jobs_of}
use Rattle.osek_base.specs.System.{System, activation_of}
use Rattle.osek_base.specs.Tick.{before_execution, execute_phase, executor, last_phase, tick}
use Rattle.osek_base.specs.Trace.{arriving, run}
use Rattle.law_runs.proofs.Foremost.{equal}
use Rattle.law_runs.proofs.Formed.{HasForm}
use Rattle.law_runs.proofs.FormedPhases.{before_form}
use Rattle.law_runs.proofs.FormedTick.{run_form}
use Rattle.law_runs.proofs.Known.{IsCaller, executor_calls}
use Rattle.law_runs.proofs.Lists.{clash}
use Rattle.law_runs.proofs.RankedTick.{IsExecuting, IsRunState, before_executing, run_ordered}
use Rattle.law_runs.proofs.Records.{NoneExecuted, none_before, none_last}
use Rattle.law_kept.specs.KeptTick.{KeptStep}
use Rattle.law_kept.proofs.Ticked.{ticks}
use Rattle.law_blockers.specs.Steps.{step_at}
use Rattle.law_blockers.proofs.StampLemmas.{state_more}
use Rattle.law_blockers.proofs.StepLemmas.{executing_is, run_tick}
use Rattle.seen_ticks.specs.declared.task_seen.TaskSeen.{TaskSeen}
use Rattle.seen_ticks.specs.Observed.{executed_in, is_by, is_waiting, state_seen, task_seen, tick_at}
use Rattle.law_seen.proofs.Shown.{runs_show}
use Rattle.view_figures.specs.StateSums.{leaves, is_waiting as seen_waiting}
use Rattle.law_figures.specs.Ages.{followed}
use Rattle.law_figures.specs.RunFigures.{task_ticks}
use Rattle.law_jobs.specs.Standing.{standing}
use Rattle.law_jobs.proofs.Calling.{caller_calm}
use Rattle.law_jobs.proofs.Executing.{HasExecuted, IsJobOf, execute_executed, is_of, leaves_by, leaves_with}
use Rattle.law_jobs.proofs.Growing.{before_grows, reschedule_same}
use Rattle.law_jobs.proofs.Lists.{AreSame, Grows, one_waits, same_jobs}
use Rattle.law_jobs.proofs.Members.{count_standing}
use Rattle.law_jobs.proofs.Moving.{Moves, same_moves}
use Rattle.law_jobs.proofs.There.{RunnerThere, before_there, few_jobs, run_there, state_told}

-- ---- what is told of a tick

told_behind : (before events : List TraceEvent) → NoneExecuted before
    → executed_in (before ++ events) ≡ executed_in events
told_behind [] events none = refl
told_behind (TraceEvent.Executed who place what outcome ∷ before) events none = clash none.0
told_behind (_ ∷ before) events none = told_behind before events none.1

module _ (S : System) (k : ℕ) where
  last_same : (x : State) → AreSame k x.jobs (last_phase S x).state.jobs
  last_same x = go x.over
    where
      go : (b : Bool)
          → AreSame k x.jobs (cond b (record { events = []; state = x })
          (reschedule S x)).state.jobs
      go true = same_jobs k x.jobs x.jobs refl
      go false = reschedule_same S k x

  -- what a tick does from its instruction on, and who executes it
  record HasTicked (e a : State) (told : Option Executed) : Type 0 where
    moves : Moves k (leaves_by S k told a.jobs) e.jobs a.jobs
    by : is_by (Owner.Task k) told ≡ is_of k (executor e)
    leaver : leaves_by S k told a.jobs ≡ true → IsJobOf k (executor e)

  tick_ticked : (proper : IsProper S) (arrived : List ℕ) (s : State) → IsRunState S s
      → HasTicked (tick S arrived s).executing (tick S arrived s).after
      (executed_in (tick S arrived s).events)
  unfolding tick
  tick_ticked proper arrived s good =
      let e : State = (before_execution S arrived s).state in
      let executing : IsExecuting S proper (before_execution S arrived s).state =
      before_executing S proper arrived s good in
      let x : State = (execute_phase S (before_execution S arrived s).state).state in
      let rest : List TraceEvent = (last_phase S x).events in
      let done : HasExecuted S e executing.good.single executing.good.ordered.ready (executor e) x
      (executed_in ((execute_phase S e).events ++ rest)) =
      execute_executed S e executing.good.single executing.good.ordered.ready rest (none_last S x)
      in
      let told : executed_in ((before_execution S arrived s).events
      ++ ((execute_phase S e).events ++ rest)) ≡ executed_in ((execute_phase S e).events ++ rest) =
      told_behind (before_execution S arrived s).events ((execute_phase S e).events ++ rest)
      (none_before S arrived s) in
      record {
        moves =
            subst (λ o. Moves k (leaves_by S k o (last_phase S x).state.jobs) e.jobs
            (last_phase S x).state.jobs)
            (sym told)
            (subst
            (λ w. Moves k (leaves_with S k (executed_in ((execute_phase S e).events ++ rest)) w)
            e.jobs
            (last_phase S x).state.jobs)
            (sym (last_same x).waits)
            (same_moves k (leaves_by S k (executed_in ((execute_phase S e).events ++ rest))
            x.jobs) e.jobs x.jobs
            (last_phase S x).state.jobs (done.moves k) (last_same x)));
        by = ap (is_by (Owner.Task k)) told ∙ done.by k;
        leaver = λ h.
            done.leaver k
            (ap (leaves_with S k (executed_in ((execute_phase S e).events ++ rest)))
            (sym (last_same x).waits)
            ∙ ap (λ o. leaves_by S k o (last_phase S x).state.jobs) (sym told) ∙ h);
      }

-- ---- a tick of a run

module _ (S : System) (mode : ℕ) (arrivals : List Arrival) (n k : ℕ) (proper : IsProper S)
    (going : (run S mode arrivals n).state.over ≡ false) (known : k < length S.tasks) where
  abbrev here : State
  here = (run S mode arrivals n).state

  abbrev at : State
  at = (step_at S mode arrivals n).executing

  abbrev told : Option Executed
  told = (tick_at S mode arrivals n).executed

  good : IsRunState S here
  good = run_ordered S proper mode arrivals n

  ready_is : (before_execution S (arriving arrivals n) here).state ≡ at
  ready_is = executing_is S mode arrivals n going

  pub executing_good : IsExecuting S proper at
  executing_good =
      subst (IsExecuting S proper) ready_is
      (before_executing S proper (arriving arrivals n) here good)

  executing_form : HasForm S at
  executing_form =
      subst (HasForm S) ready_is
      (before_form S proper (arriving arrivals n) here (run_form S proper mode arrivals n))

  executing_there : RunnerThere at
  executing_there =
      subst RunnerThere ready_is
      (before_there S proper (arriving arrivals n) here good (run_there S proper mode arrivals n))

  -- up to its instruction
  pub run_grows : Grows k here.jobs at.jobs
  run_grows =
      subst (λ (s : State). Grows k here.jobs s.jobs) ready_is
      (before_grows S k proper (arriving arrivals n) here good)

  -- and from there on
  told_is : told ≡ executed_in (tick S (arriving arrivals n) here).events
  told_is =
      (runs_show S mode arrivals n proper going).executed
      ∙ sym (ap (λ (u : KeptStep). executed_in u.events)
      (ticks S mode arrivals n (arriving arrivals n) proper))

  run_ticked : HasTicked S k at (run S mode arrivals (suc n)).state told
  run_ticked =
      subst (λ s. HasTicked S k at s told) (sym (state_more S mode arrivals n going))
      (subst (HasTicked S k at (step_at S mode arrivals n).after) (sym told_is)
      (subst
      (λ t. HasTicked S k (tick S (arriving arrivals t) here).executing
      (tick S (arriving arrivals t) here).after
      (executed_in (tick S (arriving arrivals n) here).events))
      (sym (run_tick S mode arrivals n going))
      (tick_ticked S k proper (arriving arrivals n) here good)))

  -- ---- what is seen

  seen_is : task_seen S (tick_at S mode arrivals n) k ≡ (task_ticks S mode arrivals k n).seen
  seen_is = (runs_show S mode arrivals n proper going).tasks k

  after_waits : is_waiting (task_state (step_at S mode arrivals n).after k)
      ≡ one_waits k (run S mode arrivals (suc n)).state.jobs
  after_waits =
      ap (λ s. is_waiting (task_state s k)) (sym (state_more S mode arrivals n going))
      ∙ state_told S (run S mode arrivals (suc n)).state proper next.single next.ordered.ready
      (run_there S proper mode arrivals (suc n)) k known
    where
      next : IsRunState S (run S mode arrivals (suc n)).state
      next = run_ordered S proper mode arrivals (suc n)

  leaves_is : leaves (task_ticks S mode arrivals k n)
      ≡ leaves_by S k told (run S mode arrivals (suc n)).state.jobs
  leaves_is =
      sym (ap (λ (t : TaskSeen). t.ended || t.waits) seen_is)
      ∙ ap (leaves_with S k told) after_waits

  pub run_moves : Moves k (leaves (task_ticks S mode arrivals k n)) at.jobs
      (run S mode arrivals (suc n)).state.jobs
  run_moves =
      subst (λ b. Moves k b at.jobs (run S mode arrivals (suc n)).state.jobs) (sym leaves_is)
      run_ticked.moves

  -- the job that leaves those that stand executes
  pub run_leaver : leaves (task_ticks S mode arrivals k n) ≡ true → IsJobOf k (executor at)
  run_leaver h = run_ticked.leaver (sym leaves_is ∙ h)

  -- ---- how many stand

  seen_by : (b : Bool) (state : TaskState)
      → elim (state_seen b state) [
        | Running ↦ false
        | Waiting ↦ true
        | Ready ↦ false
        | Suspended ↦
            false
      ]
      ≡ (not b && is_waiting state)
  seen_by true state = refl
  seen_by false TaskState.Running = refl
  seen_by false TaskState.Waiting = refl
  seen_by false TaskState.Ready = refl
  seen_by false TaskState.Suspended = refl

  by_calm : (c : Caller) → IsCaller at c → (not (is_of k c) && one_waits k at.jobs) ≡ one_waits k
      at.jobs
  by_calm (JobCalls j) calls = go (k == j.id.task) refl
    where
      go : (b : Bool) → (k == j.id.task) ≡ b → (not b && one_waits k at.jobs) ≡ one_waits k at.jobs
      go false other = refl
      go true own =
          sym (ap (λ t. one_waits t at.jobs) (equal k j.id.task own)
          ∙ caller_calm S at executing_good.good.single executing_good.good.ordered.ready j calls)
  by_calm (RoutineCalls a) calls = refl
  by_calm NobodyCalls calls = refl

  waiting_is : seen_waiting (task_ticks S mode arrivals k n) ≡ one_waits k at.jobs
  waiting_is =
      sym (ap (λ (t : TaskSeen).
      elim t.state [ Running ↦ false | Waiting ↦ true | Ready ↦ false | Suspended ↦ false ])
      seen_is)
      ∙ seen_by (is_by (Owner.Task k) told) (task_state at k)
      ∙ ap (λ b. not b && is_waiting (task_state at k)) run_ticked.by
      ∙ ap (λ w. not (is_of k (executor at)) && w)
      (state_told S at proper executing_good.good.single executing_good.good.ordered.ready
      executing_there k known)
      ∙ by_calm (executor at) (executor_calls at)

  pub followed_is : followed (task_ticks S mode arrivals k n) ≡ length (standing k at.jobs)
  followed_is =
      let jobs : (task_ticks S mode arrivals k n).seen.jobs ≡ length (jobs_of k at.jobs) =
      sym (ap (λ (t : TaskSeen). t.jobs) seen_is) in
      let count = count_standing S at executing_good.good.single k in
      let limited : length (jobs_of k at.jobs) ≤ activation_of S k = executing_form.formed.limited
      k in
      let few : activation_of S k ≤ MAX_ACTIVATION = few_jobs S proper k known in
      ap (λ m. min (m - cond (seen_waiting (task_ticks S mode arrivals k n)) 1 0) 15) jobs
      ∙ ap (λ w. min (length (jobs_of k at.jobs) - cond w 1 0) 15) waiting_is
      ∙ at_most (length (jobs_of k at.jobs)) (cond (one_waits k at.jobs) 1 0)
      (omega (arith, limited, few))
      ∙ sym count
    where
      at_most : (m w : ℕ) → m ≤ 15 → min (m - w) 15 ≡ m - w
      at_most m w low = omega (arith, low)
