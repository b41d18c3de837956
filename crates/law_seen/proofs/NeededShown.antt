-- States that have the same needed data show the same.
use Rattle.std.proofs.Common.{◌≡◌, ℕ, ◌+◌, ◌-◌, Bool, true, false, cond, not, ◌&&◌, List, [], ◌∷◌, ◌++◌, map, refl, sym, ◌∙◌, ap}
use Rattle.std.specs.Prelude.{Option, Some, None, slice_index_or}
use Rattle.std.specs.Option.{option_map}
use Rattle.osek_base.specs.declared.executed.Executed.{Executed}
use Rattle.osek_base.specs.declared.ids.Owner.{Owner}
use Rattle.osek_base.specs.declared.status.Status.{Status}
use Rattle.osek_base.specs.declared.task.Action.{Action}
use Rattle.osek_base.specs.declared.trace_event.Outcome.{Outcome}
use Rattle.osek_base.specs.declared.trace_event.TraceEvent.{TraceEvent}
use Rattle.osek_base.specs.Alarm.{due_alarms}
use Rattle.osek_base.specs.State.{Active}
use Rattle.osek_base.specs.System.{System, alarm}
use Rattle.osek_base.specs.Tick.{action_call}
use Rattle.law_kept.specs.Kept.{Kept}
use Rattle.law_kept.specs.KeptService.{ByNobody, KeptReply, bare, task_state_in}
use Rattle.law_kept.specs.KeptTick.{before_execution_in, tick_in, advanced_in}
use Rattle.law_kept.specs.Moves.{KeptRecorded}
use Rattle.law_kept.specs.Seen.{routine_of}
use Rattle.seen_ticks.specs.Told.{acting_in, if_refused, refused_by, refused_of_in, task_at_in}
use Rattle.law_future.specs.Need.{Need, Suffices}
use Rattle.law_future.specs.Same.{AreStepsOfSame, HasAllowedIndices, HaveSameNeeded, blanked, blanked_outcome, cleaned, cleaned_routine, cleaned_shared, cleaned_words}
use Rattle.law_future.proofs.Executed.{cleaning, fresh_clean}
use Rattle.law_future.proofs.Steps.{before_clean, leaves_shared, unasked_clean}
use Rattle.law_future.proofs.NeededTicks.{ticks_keep_same}
use Rattle.seen_ticks.specs.Observed.{activates, activations_by, answered, ending, executed_in, failure_by, failure_of, instruction, is_accepted, is_among, is_by, is_end, is_limit, is_number, is_waiting, lost_of, one_if, owner_of, refusing, state_seen, status_of, task_of, times}
use Rattle.law_seen.specs.Shown.{KeptTicked, ticked_in, jobs_before_in, task_seen_in, routine_seen_in, holders_seen_in, alarm_seen_in}
use Rattle.law_seen.specs.ShownAlike.{AreShownAlike, SameNeededShow}

-- ---- the tick's instruction, but for values

abbrev blanked_executed : Executed → Executed
blanked_executed e = record e { outcome = blanked_outcome e.outcome }

abbrev blank : Option Executed → Option Executed
blank e = option_map blanked_executed e

executed_blanked : (events : List TraceEvent)
    → executed_in (map blanked events) ≡ blank (executed_in events)
executed_blanked [] = refl
executed_blanked (TraceEvent.Executed who place what outcome ∷ rest) = refl
executed_blanked (_ ∷ rest) = executed_blanked rest

owner_blank : (e : Option Executed) → option_map owner_of e ≡ option_map owner_of (blank e)
owner_blank None = refl
owner_blank (Some e) = refl

by_blank : (who : Owner) (e : Option Executed) → is_by who e ≡ is_by who (blank e)
by_blank who None = refl
by_blank who (Some e) = refl

status_blank : (outcome : Outcome) → status_of outcome ≡ status_of (blanked_outcome outcome)
status_blank (Outcome.Plain effect) = refl
status_blank (Outcome.Answer _ results) = refl
status_blank Outcome.Control = refl

answered_blank : (e : Option Executed) → answered e ≡ answered (blank e)
answered_blank None = refl
answered_blank (Some e) = status_blank e.outcome

failure_blank : (e : Option Executed) → failure_of e ≡ failure_of (blank e)
failure_blank None = refl
failure_blank (Some e) = ap (failure_by e) (status_blank e.outcome)

accepted_blank : (outcome : Outcome) → is_accepted outcome ≡ is_accepted (blanked_outcome outcome)
accepted_blank (Outcome.Plain effect) = refl
accepted_blank (Outcome.Answer Status.Ok results) = refl
accepted_blank (Outcome.Answer _ results) = refl
accepted_blank Outcome.Control = refl

limit_blank : (outcome : Outcome) → is_limit outcome ≡ is_limit (blanked_outcome outcome)
limit_blank (Outcome.Plain effect) = refl
limit_blank (Outcome.Answer Status.Limit results) = refl
limit_blank (Outcome.Answer _ results) = refl
limit_blank Outcome.Control = refl

ending_blank : (S : System) (e : Option Executed) → ending S e ≡ ending S (blank e)
ending_blank S None = refl
ending_blank S (Some e) = ap (λ b. cond (b && is_end (instruction S e)) (task_of e.owner) None)
    (accepted_blank e.outcome)

refusing_blank : (S : System) (e : Option Executed) → refusing S e ≡ refusing S (blank e)
refusing_blank S None = refl
refusing_blank S (Some e) = ap (λ b. cond b (activates (instruction S e)) None)
    (limit_blank e.outcome)

-- ---- alarms that act

module _ (S : System) (need : Need) where
  action_leaves : (act : Action) → leaves_shared (action_call act) ≡ true
  action_leaves (Action.ActivateTask t) = refl
  action_leaves (Action.SetEvent t m) = refl

  refused_cleaned : (due : List ℕ) (o : Kept)
      → refused_of_in S due (cleaned need o) ≡ refused_of_in S due o
  refused_cleaned [] o = refl
  refused_cleaned (a ∷ due) o =
      let call = action_call (alarm S a).action in
      let same =
      unasked_clean S (cleaning need) (cleaned_words need) (cleaned_shared need.shared)
      (fresh_clean need) ByNobody o call
      (action_leaves (alarm S a).action) in
      ap (λ (r : KeptReply). if_refused a r.status ++ refused_of_in S due r.state) same
      ∙ ap (λ v. if_refused a (acting_in S a o).status ++ v)
      (refused_cleaned due (acting_in S a o).state)

  refused_same : (o : Kept) → refused_by S (cleaned need o) ≡ refused_by S o
  refused_same o = refused_cleaned (due_alarms S (bare o)) (advanced_in S o)

  -- ---- a tick

  module _ (closed : Suffices S need) (first : Bool) (arrived : List ℕ) (o p : Kept)
      (h : HasAllowedIndices need o)
      (k : HasAllowedIndices need p) (same : HaveSameNeeded need o p) where
    abbrev one : KeptTicked
    one = ticked_in S first arrived o

    abbrev other : KeptTicked
    other = ticked_in S first arrived p

    both : AreStepsOfSame need (tick_in S arrived o) (tick_in S arrived p)
    both = ticks_keep_same S need arrived o p closed h k same

    executed : blank one.executed ≡ blank other.executed
    executed =
        sym (executed_blanked (tick_in S arrived o).events) ∙ ap executed_in both.events
        ∙ executed_blanked (tick_in S arrived p).events

    by : (who : Owner) → is_by who one.executed ≡ is_by who other.executed
    by who = by_blank who one.executed ∙ ap (is_by who) executed ∙ sym (by_blank who other.executed)

    ends : ending S one.executed ≡ ending S other.executed
    ends = ending_blank S one.executed ∙ ap (ending S) executed
        ∙ sym (ending_blank S other.executed)

    refuses : refusing S one.executed ≡ refusing S other.executed
    refuses = refusing_blank S one.executed ∙ ap (refusing S) executed
        ∙ sym (refusing_blank S other.executed)

    due : one.due ≡ other.due
    due = ap (λ (x : Kept). due_alarms S (bare x)) same

    refused : one.refused ≡ other.refused
    refused = sym (refused_same o) ∙ ap (refused_by S) same ∙ refused_same p

    at_cleaned : (x : Kept) → cleaned need (before_execution_in S arrived x).state
        ≡ (before_execution_in S arrived (cleaned need x)).state
    at_cleaned x =
        sym (ap (λ (r : KeptRecorded). r.state)
        (before_clean S (cleaning need) (cleaned_words need) (cleaned_shared need.shared)
        (fresh_clean need) arrived x))

    at : cleaned need one.at ≡ cleaned need other.at
    at = at_cleaned o ∙ ap (λ x. (before_execution_in S arrived x).state) same ∙ sym (at_cleaned p)

    after : cleaned need one.after ≡ cleaned need other.after
    after = both.after

    routine_cleaned : (active : Option Active)
        → option_map routine_of active ≡ option_map routine_of
        (option_map (cleaned_routine need) active)
    routine_cleaned None = refl
    routine_cleaned (Some a) = refl

    active : option_map routine_of o.active ≡ option_map routine_of p.active
    active =
        routine_cleaned o.active ∙ ap (λ (x : Kept). option_map routine_of x.active) same
        ∙ sym (routine_cleaned p.active)

    tasks : (t : ℕ) → task_seen_in S one t ≡ task_seen_in S other t
    tasks t = λ i. record {
      state = state_seen (by (Owner.Task t) i) (task_at_in S (at i) t).state;
      priority = (task_at_in S (at i) t).priority;
      jobs = (task_at_in S (at i) t).jobs;
      made =
          ((after i).slots t).count + one_if (is_number t (ends i))
          - jobs_before_in first (same i) t;
      refused = one_if (is_number t (refuses i)) + activations_by S t (refused i);
      ended = is_number t (ends i);
      waits = by (Owner.Task t) i && is_waiting (task_state_in (after i) t);
    }

    routines : (r : ℕ) → routine_seen_in one r ≡ routine_seen_in other r
    routines r = λ i. record {
      executes = by (Owner.Routine r) i;
      is_pending = slice_index_or (at i).pending r false;
      is_started = by (Owner.Routine r) i && not (is_number r (active i));
      arrived = times r arrived;
      lost = lost_of (slice_index_or (same i).pending r false) (times r arrived);
    }

    alarms : (a : ℕ) → alarm_seen_in one a ≡ alarm_seen_in other a
    alarms a = λ i. record {
      has_expired = is_among (due i) a;
      is_refused = is_among (refused i) a;
    }

    pub shown : AreShownAlike S one other
    shown = record {
      executor = owner_blank one.executed ∙ ap (option_map owner_of) executed
          ∙ sym (owner_blank other.executed);
      answered = answered_blank one.executed ∙ ap answered executed
          ∙ sym (answered_blank other.executed);
      failure = failure_blank one.executed ∙ ap failure_of executed
          ∙ sym (failure_blank other.executed);
      tasks = tasks;
      routines = routines;
      holders = ap (holders_seen_in S) at;
      alarms = alarms;
    }

pub same_needed_show : SameNeededShow
same_needed_show S need first arrived o p closed h k same =
    shown S need closed first arrived o p h k same
