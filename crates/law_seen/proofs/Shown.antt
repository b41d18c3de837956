-- What is seen of a tick of a run is shown by what is kept of the state before it.
use Rattle.std.proofs.Common.{◌≡◌, ℕ, zero, suc, ◌+◌, ◌-◌, true, false, cond, not, ◌&&◌, List, [], ◌∷◌, ◌++◌, map, length, refl, sym, ◌∙◌, ap, subst}
use Rattle.std.specs.Prelude.{Option, ◌==◌, slice_index_or}
use Rattle.std.specs.Option.{option_map}
use Rattle.std.proofs.Math.Numerals.{add-one}
use Rattle.std.proofs.Math.Path.{fun_ext}
use Rattle.osek_base.specs.declared.arrivals.Arrival.{Arrival}
use Rattle.osek_base.specs.declared.ids.Owner.{Owner}
use Rattle.osek_base.specs.declared.ids.ResId.{ResId}
use Rattle.osek_base.specs.declared.trace_event.TraceEvent.{TraceEvent}
use Rattle.osek_base.specs.Lists.{below}
use Rattle.osek_base.specs.Proper.{IsProper}
use Rattle.osek_base.specs.Service.{task_state}
use Rattle.osek_base.specs.State.{State, jobs_of}
use Rattle.osek_base.specs.System.{System}
use Rattle.osek_base.specs.Tick.{before_execution, tick}
use Rattle.osek_base.specs.Trace.{Run, arriving, run}
use Rattle.law_runs.proofs.FormedPhases.{before_form}
use Rattle.law_runs.proofs.FormedTick.{run_form}
use Rattle.law_runs.proofs.Further.{going_earlier, run_more, run_tick}
use Rattle.law_runs.proofs.RankedTick.{IsExecuting, IsRunState, before_executing, run_ordered}
use Rattle.law_runs.proofs.Records.{NoneExecuted, none_boot}
use Rattle.law_kept.specs.Kept.{Kept, kept}
use Rattle.law_kept.specs.KeptService.{task_state_in}
use Rattle.law_kept.specs.KeptTick.{KeptStep, kept_step, tick_in}
use Rattle.law_kept.specs.Moves.{KeptRecorded}
use Rattle.law_kept.proofs.InRuns.{before_alike}
use Rattle.law_kept.proofs.Ticked.{known_of, settled_of, ticks}
use Rattle.law_kept.specs.Seen.{routine_of}
use Rattle.law_blockers.proofs.StepLemmas.{executing_is as instruction_is, unwritten_more}
use Rattle.seen_ticks.specs.Told.{task_at, task_at_in}
use Rattle.seen_ticks.proofs.SeenLemmas.{counted, holder_is, state_is, task_is}
use Rattle.seen_ticks.proofs.ToldLemmas.{refused_told}
use Rattle.seen_ticks.specs.Observed.{Ticked, activations_by, alarm_seen, answered, ending, executed_in, failure_of, holders_seen, is_among, is_by, is_number, is_waiting, lost_of, one_if, owner_of, refusing, routine_seen, state_seen, task_seen, tick_at, times}
use Rattle.law_seen.specs.Shown.{KeptTicked, task_seen_in, routine_seen_in, holders_seen_in, alarm_seen_in, ShowTheSame, kept_tick_at, RunsShow, SeenIsShown}

-- ---- the tick's instruction

executed_behind : (before events : List TraceEvent) → NoneExecuted before
    → executed_in (before ++ events) ≡ executed_in events
executed_behind [] events none = refl
executed_behind (TraceEvent.Executed who place what outcome ∷ before) events none =
    absurd (true_is_false none.0)
  where
    true_is_false : true ≡ false → ⊥
    true_is_false e = cc
executed_behind (_ ∷ before) events none = executed_behind before events none.1

none_first : (S : System) (mode : ℕ) (arrivals : List Arrival)
    → NoneExecuted (run S mode arrivals 0).unwritten
unfolding run
none_first S mode arrivals = none_boot S mode

none_unwritten : (S : System) (mode : ℕ) (arrivals : List Arrival) (n : ℕ)
    → (run S mode arrivals n).state.over ≡ false
    → NoneExecuted (run S mode arrivals n).unwritten
none_unwritten S mode arrivals zero going = none_first S mode arrivals
none_unwritten S mode arrivals (suc n) going =
    let next : n + 1 ≡ suc n = add-one n in
    let before : (run S mode arrivals n).state.over ≡ false =
    going_earlier S mode arrivals n (ap (λ k. (run S mode arrivals k).state.over) next
    ∙ going) in
    subst (λ k. NoneExecuted (run S mode arrivals k).unwritten) next
    (subst NoneExecuted (sym (unwritten_more S mode arrivals n before)) tt)

-- ---- holders

holders_are : (S : System) (s : State) → holders_seen S s ≡ holders_seen_in S (kept S s)
holders_are S s =
    ap (λ (h : ResId → Option ℕ). map (λ r. h (ResId.Declared r)) (below (length S.resources))
    ++ cond S.use_res_scheduler (h ResId.Scheduler ∷ []) []) (fun_ext (λ r. sym (holder_is S s r)))

-- ---- a tick of a run

module _ (S : System) (proper : IsProper S) (mode : ℕ) (arrivals : List Arrival) (n : ℕ)
    (going : (run S mode arrivals n).state.over ≡ false) where
  abbrev here : State
  here = (run S mode arrivals n).state

  abbrev seen : Ticked
  seen = tick_at S mode arrivals n

  abbrev shown : KeptTicked
  shown = kept_tick_at S mode arrivals n

  same_tick : kept_step S (tick S (arriving arrivals here.tick) here)
      ≡ tick_in S (arriving arrivals n) (kept S here)
  same_tick =
      ap (λ t. kept_step S (tick S (arriving arrivals t) here)) (run_tick S mode arrivals n going)
      ∙ ticks S mode arrivals n (arriving arrivals n) proper

  executed_is : seen.executed ≡ shown.executed
  executed_is =
      executed_behind (run S mode arrivals n).unwritten
      (tick S (arriving arrivals here.tick) here).events
      (none_unwritten S mode arrivals n going)
      ∙ ap (λ (u : KeptStep). executed_in u.events) same_tick

  after_is : kept S seen.after ≡ shown.after
  after_is = ap (λ (u : KeptStep). u.after) same_tick

  abbrev executing : State
  executing = (before_execution S (arriving arrivals n) here).state

  executing_is : executing ≡ seen.at
  executing_is = instruction_is S mode arrivals n going

  at_is : kept S seen.at ≡ shown.at
  at_is =
      ap (kept S) (sym executing_is)
      ∙ ap (λ (r : KeptRecorded). r.state)
      (before_alike S mode arrivals n (arriving arrivals n) proper)

  refused_is : seen.refused ≡ shown.refused
  refused_is = sym (refused_told S proper mode arrivals n)

  task_at_is : (t : ℕ) → task_at S seen.at t ≡ task_at_in S shown.at t
  task_at_is t =
      let good : IsExecuting S proper executing =
      before_executing S proper (arriving arrivals n) here
      (run_ordered S proper mode arrivals n) in
      ap (λ s. task_at S s t) (sym executing_is)
      ∙ sym (task_is S executing
      (settled_of S executing good.good.single good.good.ordered.ranked)
      (known_of S executing (before_form S proper (arriving arrivals n) here
      (run_form S proper mode arrivals n))) t)
      ∙ ap (λ (r : KeptRecorded). task_at_in S r.state t)
      (before_alike S mode arrivals n (arriving arrivals n) proper)

  state_after_is : (t : ℕ) → task_state seen.after t ≡ task_state_in shown.after t
  state_after_is t =
      let s : State = (run S mode arrivals (n + 1)).state in
      let good : IsRunState S s = run_ordered S proper mode arrivals (n + 1) in
      let next : s ≡ seen.after = ap (λ (r : Run). r.state) (run_more S mode arrivals n going) in
      ap (λ s. task_state s t) (sym next)
      ∙ sym (state_is S s (settled_of S s good.single good.ordered.ranked)
      (known_of S s (run_form S proper mode arrivals (n + 1))) t)
      ∙ ap (λ s. task_state_in (kept S s) t) next
      ∙ ap (λ o. task_state_in o t) after_is

  jobs_after_is : (t : ℕ) → length (jobs_of t seen.after.jobs) ≡ (shown.after.slots t).count
  jobs_after_is t = sym (counted (jobs_of t seen.after.jobs))
      ∙ ap (λ (o : Kept). (o.slots t).count) after_is

  task_seen_is : (t : ℕ) → task_seen S seen t ≡ task_seen_in S shown t
  task_seen_is t = λ i. record {
    state = state_seen (is_by (Owner.Task t) (executed_is i)) (task_at_is t i).state;
    priority = (task_at_is t i).priority;
    jobs = (task_at_is t i).jobs;
    made =
        jobs_after_is t i + one_if (is_number t (ending S (executed_is i)))
        - cond (n == 0) 0 (sym (counted (jobs_of t here.jobs)) i);
    refused =
        one_if (is_number t (refusing S (executed_is i)))
        + activations_by S t (refused_is i);
    ended = is_number t (ending S (executed_is i));
    waits = is_by (Owner.Task t) (executed_is i) && is_waiting (state_after_is t i);
  }

  routine_seen_is : (r : ℕ) → routine_seen seen r ≡ routine_seen_in shown r
  routine_seen_is r = λ i. record {
    executes = is_by (Owner.Routine r) (executed_is i);
    is_pending = slice_index_or (at_is i).pending r false;
    is_started =
        is_by (Owner.Routine r) (executed_is i)
        && not (is_number r (option_map routine_of here.active));
    arrived = times r (arriving arrivals n);
    lost = lost_of (slice_index_or here.pending r false) (times r (arriving arrivals n));
  }

  alarm_seen_is : (a : ℕ) → alarm_seen seen a ≡ alarm_seen_in shown a
  alarm_seen_is a = λ i. record {
    has_expired = is_among seen.due a;
    is_refused = is_among (refused_is i) a;
  }

  pub show_the_same : ShowTheSame S seen shown
  show_the_same = record {
    executed = executed_is;
    tasks = task_seen_is;
    routines = routine_seen_is;
    holders = holders_are S seen.at ∙ ap (holders_seen_in S) at_is;
    alarms = alarm_seen_is;
  }

pub runs_show : RunsShow
runs_show S mode arrivals n proper going = show_the_same S proper mode arrivals n going

pub seen_is_shown : SeenIsShown
seen_is_shown S mode arrivals n o proper going seen =
    let same : ShowTheSame S (tick_at S mode arrivals n) (kept_tick_at S mode arrivals n) =
    runs_show S mode arrivals n proper going in
    record {
      executor = seen.executor ∙ ap (option_map owner_of) same.executed;
      answered = seen.answered ∙ ap answered same.executed;
      failure = seen.failure ∙ ap failure_of same.executed;
      tasks = seen.tasks ∙ ap (λ f. map f (below (length S.tasks))) (fun_ext same.tasks);
      routines = seen.routines ∙ ap (λ f. map f (below (length S.routines)))
          (fun_ext same.routines);
      holders = seen.holders ∙ same.holders;
      alarms = seen.alarms ∙ ap (λ f. map f (below (length S.alarms))) (fun_ext same.alarms);
    }
