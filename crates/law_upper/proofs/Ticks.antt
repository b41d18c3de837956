-- Each tick shows the same of the upper part in systems that agree.
use Rattle.std.proofs.Common.{◌≡◌, ℕ, ◌+◌, ◌-◌, Bool, true, false, cond, not, ◌&&◌, List, length, refl, sym, ◌∙◌, ap, ap₂, true≢false, ne_eqb}
use Rattle.std.specs.Prelude.{◌==◌, Option, Some, None, slice_index_or}
use Rattle.std.specs.List.{filter, list_any}
use Rattle.std.specs.Option.{option_map}
use Rattle.osek_base.specs.declared.arrivals.Arrival.{Arrival}
use Rattle.osek_base.specs.declared.executed.Executed.{Executed}
use Rattle.osek_base.specs.declared.ids.Owner.{Owner}
use Rattle.osek_base.specs.declared.ids.ResId.{ResId}
use Rattle.osek_base.specs.Alarm.{alarms_advanced, due_alarms}
use Rattle.osek_base.specs.Priority.{dynamic_priority}
use Rattle.osek_base.specs.Service.{task_state}
use Rattle.osek_base.specs.State.{State, jobs_of}
use Rattle.osek_base.specs.System.{System}
use Rattle.osek_base.specs.Trace.{arriving, run}
use Rattle.osek_base.specs.Upper.{is_upper_owner, is_upper_task}
use Rattle.law_kept.specs.Seen.{routine_of}
use Rattle.seen_ticks.specs.Shown.{holder, oldest_job}
use Rattle.law_future.specs.Alike.{records_at}
use Rattle.seen_ticks.specs.Observed.{Ticked, activations_by, alarm_seen, ending, failure_of, is_among, is_by, is_number, is_waiting, lost_of, one_if, refusing, routine_seen, state_seen, task_seen, tick_at, times}
use Rattle.view_figures.specs.FigureSums.{is_routine, is_task}
use Rattle.law_upper.specs.Above.{IsUpperTask, IsTheSameAlarm, IsTheSameResource, AreOneAbove}
use Rattle.law_upper.specs.AlarmsAbove.{AlarmsAreAnsweredTheSame}
use Rattle.law_upper.specs.ExecutedAbove.{ExecuteTheSame}
use Rattle.law_upper.specs.StatesAbove.{HaveTheSameStates, IsSeenTheSame, executes, executing_at, holder as kept_holder}
use Rattle.law_upper.specs.ShownAbove.{ShowTheSameAbove, if_upper, is_blocked, routine_fails, task_fails}
use Rattle.law_upper.proofs.AlarmsSeen.{activations_are, due_is, has_number, is_refusal, refused_is, refuses}
use Rattle.law_upper.proofs.Answering.{failed_is, fails, has_failed}
use Rattle.law_upper.proofs.Failing.{failure_is, failure_told}
use Rattle.law_upper.proofs.Executing.{TickTells, tick_tells_one}
use Rattle.law_upper.proofs.SeenUp.{holder_declared, holder_scheduler}
use Rattle.law_upper.proofs.Instructions.{ending_is, ends_job, is_any, refusing_is}
use Rattle.law_upper.proofs.Lower.{blocked_same}
use Rattle.law_upper.proofs.OneTick.{after_is, at_is, by_is, executed_is}

-- ---- who isn't of the upper part

other_task : (T : System) (p t : ℕ) → is_upper_task T p t ≡ true
    → (who : Owner) → is_upper_owner T p who ≡ false → is_task (Some who) t ≡ false
other_task T p t high (Owner.Task u) is_low =
    ne_eqb u t (λ e. true≢false (sym high ∙ ap (is_upper_task T p) (sym e) ∙ is_low))
other_task T p t high (Owner.Routine i) is_low = refl

other_routine : (T : System) (p i : ℕ) (who : Owner) → is_upper_owner T p who ≡ false
    → is_routine (Some who) i ≡ false
other_routine T p i (Owner.Task u) is_low = refl
other_routine T p i (Owner.Routine j) is_low = absurd (true≢false is_low)

-- ---- of two systems that agree

module _ (S B : System) (p : ℕ) (pair : AreOneAbove S B p) (states : HaveTheSameStates S B p)
    (executions : ExecuteTheSame S B p) (answers : AlarmsAreAnsweredTheSame S B p)
    (there : (t : ℕ) → IsUpperTask S p t → IsUpperTask B p t) (mode : ℕ)
    (arrivals : List Arrival) (n : ℕ) (going : (run S mode arrivals n).state.over ≡ false) where
  abbrev mine : Ticked
  mine = tick_at S mode arrivals n

  abbrev theirs : Ticked
  theirs = tick_at B mode arrivals n

  going_there : (run B mode arrivals n).state.over ≡ false
  going_there = sym (states.between mode arrivals n).over ∙ going

  before : IsSeenTheSame S B p mine.before theirs.before
  before = states.between mode arrivals n

  at : IsSeenTheSame S B p (executing_at S mode arrivals n) (executing_at B mode arrivals n)
  at = states.executing mode arrivals n

  after : IsSeenTheSame S B p (run S mode arrivals (n + 1)).state
      (run B mode arrivals (n + 1)).state
  after = states.between mode arrivals (n + 1)

  here_at : mine.at ≡ executing_at S mode arrivals n
  here_at = at_is S pair.proper mode arrivals n going

  there_at : theirs.at ≡ executing_at B mode arrivals n
  there_at = at_is B pair.proper_there mode arrivals n going_there

  here_after : mine.after ≡ (run S mode arrivals (n + 1)).state
  here_after = after_is S pair.proper mode arrivals n going

  there_after : theirs.after ≡ (run B mode arrivals (n + 1)).state
  there_after = after_is B pair.proper_there mode arrivals n going_there

  -- what is the same where the instruction is executed, and behind the tick
  at_same : {X : Type 0} (f g : State → X)
      → f (executing_at S mode arrivals n) ≡ g (executing_at B mode arrivals n)
      → f mine.at ≡ g theirs.at
  at_same f g same = ap f here_at ∙ same ∙ sym (ap g there_at)

  after_same : {X : Type 0} (f g : State → X)
      → f (run S mode arrivals (n + 1)).state ≡ g (run B mode arrivals (n + 1)).state
      → f mine.after ≡ g theirs.after
  after_same f g same = ap f here_after ∙ same ∙ sym (ap g there_after)

  by_same : (who : Owner)
      → executes (executing_at S mode arrivals n) who
      ≡ executes (executing_at B mode arrivals n) who
      → is_by who mine.executed ≡ is_by who theirs.executed
  by_same who same =
      by_is S pair.proper mode arrivals n going who ∙ same
      ∙ sym (by_is B pair.proper_there mode arrivals n going_there who)

  told_here : TickTells S (arriving arrivals n) (run S mode arrivals n).state
  told_here = tick_tells_one S (arriving arrivals n) (run S mode arrivals n).state

  told_there : TickTells B (arriving arrivals n) (run B mode arrivals n).state
  told_there = tick_tells_one B (arriving arrivals n) (run B mode arrivals n).state

  -- ---- tasks

  module _ (t : ℕ) (is : IsUpperTask S p t) where
    ends_same : is_number t (ending S mine.executed) ≡ is_number t (ending B theirs.executed)
    ends_same =
        ap (λ e. is_number t (ending S e)) (executed_is S pair.proper mode arrivals n going)
        ∙ ending_is S (records_at S mode arrivals n) told_here.one p t is.upper
        ∙ ap (list_any (ends_job t)) (executions.executions mode arrivals n)
        ∙ sym (ending_is B (records_at B mode arrivals n) told_there.one p t (there t is).upper)
        ∙ sym (ap (λ e. is_number t (ending B e))
        (executed_is B pair.proper_there mode arrivals n going_there))

    limit_same : is_number t (refusing S mine.executed) ≡ is_number t (refusing B theirs.executed)
    limit_same =
        ap (λ e. is_number t (refusing S e)) (executed_is S pair.proper mode arrivals n going)
        ∙ refusing_is S (records_at S mode arrivals n) told_here.one t
        ∙ ap is_any (executions.refusals mode arrivals n t is)
        ∙ sym (refusing_is B (records_at B mode arrivals n) told_there.one t)
        ∙ sym (ap (λ e. is_number t (refusing B e))
        (executed_is B pair.proper_there mode arrivals n going_there))

    by_alarms : activations_by S t mine.refused ≡ activations_by B t theirs.refused
    by_alarms =
        activations_are S p t is.upper (due_alarms S mine.before)
        (record mine.before { alarms = alarms_advanced S mine.before })
        ∙ ap (λ xs. length (filter (refuses t) xs)) (answers mode arrivals n)
        ∙ sym (activations_are B p t (there t is).upper (due_alarms B theirs.before)
        (record theirs.before { alarms = alarms_advanced B theirs.before }))

    executes_same : is_by (Owner.Task t) mine.executed ≡ is_by (Owner.Task t) theirs.executed
    executes_same = by_same (Owner.Task t) (at.tasks t is).executes

    state_same : task_state mine.at t ≡ task_state theirs.at t
    state_same = at_same (λ s. task_state s t) (λ s. task_state s t) (at.tasks t is).state

    jobs_at : length (jobs_of t mine.at.jobs) ≡ length (jobs_of t theirs.at.jobs)
    jobs_at =
        at_same (λ s. length (jobs_of t s.jobs)) (λ s. length (jobs_of t s.jobs))
        (at.tasks t is).jobs

    jobs_after : length (jobs_of t mine.after.jobs) ≡ length (jobs_of t theirs.after.jobs)
    jobs_after =
        after_same (λ s. length (jobs_of t s.jobs)) (λ s. length (jobs_of t s.jobs))
        (after.tasks t is).jobs

    waits_after : task_state mine.after t ≡ task_state theirs.after t
    waits_after =
        after_same (λ s. task_state s t) (λ s. task_state s t) (after.tasks t is).state

    priority_same : option_map (dynamic_priority S) (oldest_job mine.at t)
        ≡ option_map (dynamic_priority B) (oldest_job theirs.at t)
    priority_same =
        at_same (λ s. option_map (dynamic_priority S) (oldest_job s t))
        (λ s. option_map (dynamic_priority B) (oldest_job s t)) (at.tasks t is).priority

    task_same : task_seen S mine t ≡ task_seen B theirs t
    task_same = λ i. record {
      state = state_seen (executes_same i) (state_same i);
      priority = priority_same i;
      jobs = jobs_at i;
      made =
          jobs_after i + one_if (ends_same i)
          - cond (n == 0) 0 ((before.tasks t is).jobs i);
      refused = one_if (limit_same i) + by_alarms i;
      ended = ends_same i;
      waits = executes_same i && is_waiting (waits_after i);
    }

  task_blocked : (t : ℕ) → IsUpperTask S p t → is_blocked S mine t ≡ is_blocked B theirs t
  task_blocked t is =
      blocked_same S B p pair mode arrivals n going going_there executes_same t is (there t is)
      (task_same t is)

  -- ---- routines

  flags_same : mine.at.pending ≡ theirs.at.pending
  flags_same = at_same (λ s. s.pending) (λ s. s.pending) at.pending

  routine_same : (r : ℕ) → routine_seen mine r ≡ routine_seen theirs r
  routine_same r =
      let executes : is_by (Owner.Routine r) mine.executed
      ≡ is_by (Owner.Routine r) theirs.executed =
      by_same (Owner.Routine r) (at.routine_executes r) in
      λ i. record {
        executes = executes i;
        is_pending = slice_index_or (flags_same i) r false;
        is_started =
            executes i && not (is_number r (option_map routine_of (before.active i)));
        arrived = times r (arriving arrivals n);
        lost = lost_of (slice_index_or (before.pending i) r false) (times r (arriving arrivals n));
      }

  -- ---- resources and alarms

  holders_same : (r q : ℕ) → IsTheSameResource S B p r q
      → holder S mine.at (ResId.Declared r) ≡ holder B theirs.at (ResId.Declared q)
  holders_same r q is =
      sym (holder_declared S mine.at r is.known)
      ∙ at_same (λ s. kept_holder S s r) (λ s. kept_holder B s q) (at.holders r q is)
      ∙ holder_declared B theirs.at q is.known_there

  scheduler_same : holder S mine.at ResId.Scheduler ≡ holder B theirs.at ResId.Scheduler
  scheduler_same =
      sym (holder_scheduler S mine.at)
      ∙ at_same (λ s. kept_holder S s (length S.resources))
      (λ s. kept_holder B s (length B.resources)) at.scheduler
      ∙ holder_scheduler B theirs.at

  module _ (a c : ℕ) (is : IsTheSameAlarm S B p a c) where
    due_same : is_among mine.due a ≡ is_among theirs.due c
    due_same =
        due_is S p a is.upper (due_alarms S mine.before)
        (record mine.before { alarms = alarms_advanced S mine.before })
        ∙ ap₂ (λ m xs. list_any (has_number m) xs) is.number (answers mode arrivals n)
        ∙ sym (due_is B p c is.upper_there (due_alarms B theirs.before)
        (record theirs.before { alarms = alarms_advanced B theirs.before }))

    refused_same : is_among mine.refused a ≡ is_among theirs.refused c
    refused_same =
        refused_is S p a is.upper (due_alarms S mine.before)
        (record mine.before { alarms = alarms_advanced S mine.before })
        ∙ ap₂ (λ m xs. list_any (is_refusal m) xs) is.number (answers mode arrivals n)
        ∙ sym (refused_is B p c is.upper_there (due_alarms B theirs.before)
        (record theirs.before { alarms = alarms_advanced B theirs.before }))

    alarm_same : alarm_seen mine a ≡ alarm_seen theirs c
    alarm_same = λ i. record { has_expired = due_same i; is_refused = refused_same i }

  -- ---- services that fail, by a test that only upper owners pass

  failing_same : (test : Option Owner → Bool) → test None ≡ false
      → ((who : Owner) → is_upper_owner S p who ≡ false → test (Some who) ≡ false)
      → ((who : Owner) → is_upper_owner B p who ≡ false → test (Some who) ≡ false)
      → has_failed test mine.executed ≡ has_failed test theirs.executed
  failing_same test nobody only only_there =
      ap (has_failed test) (executed_is S pair.proper mode arrivals n going)
      ∙ failed_is S p test nobody only (records_at S mode arrivals n) told_here.one
      ∙ ap (list_any (fails test)) (executions.executions mode arrivals n)
      ∙ sym (failed_is B p test nobody only_there (records_at B mode arrivals n) told_there.one)
      ∙ sym (ap (has_failed test) (executed_is B pair.proper_there mode arrivals n going_there))

  task_fails_same : (t : ℕ) → IsUpperTask S p t → task_fails mine t ≡ task_fails theirs t
  task_fails_same t is =
      failing_same (λ who. is_task who t) refl (other_task S p t is.upper)
      (other_task B p t (there t is).upper)

  routine_fails_same : (i : ℕ) → routine_fails mine i ≡ routine_fails theirs i
  routine_fails_same i =
      failing_same (λ who. is_routine who i) refl (other_routine S p i) (other_routine B p i)

  failure_same : if_upper S p (failure_of mine.executed)
      ≡ if_upper B p (failure_of theirs.executed)
  failure_same =
      ap (λ (e : Option Executed). if_upper S p (failure_of e))
      (executed_is S pair.proper mode arrivals n going)
      ∙ failure_is S p (records_at S mode arrivals n) told_here.one
      ∙ ap failure_told (executions.executions mode arrivals n)
      ∙ sym (failure_is B p (records_at B mode arrivals n) told_there.one)
      ∙ sym (ap (λ (e : Option Executed). if_upper B p (failure_of e))
      (executed_is B pair.proper_there mode arrivals n going_there))

  pub tick_shows_the_same : ShowTheSameAbove S B p mine theirs
  tick_shows_the_same = record {
    tasks = task_same;
    routines = routine_same;
    holders = holders_same;
    scheduler = scheduler_same;
    alarms = alarm_same;
    blocked = task_blocked;
    errors = task_fails_same;
    routine_errors = routine_fails_same;
    failures = failure_same;
  }
