-- States between which only absolute time differs, and values that no program asks for, show the
-- same.
use Rattle.std.proofs.Common.{◌≡◌, ℕ, ◌+◌, ◌-◌, Bool, false, not, ◌&&◌, List, [], ◌∷◌, ◌++◌, length, refl, sym, ◌∙◌, ap}
use Rattle.std.specs.Prelude.{Option, slice_index_or}
use Rattle.std.specs.Option.{option_map}
use Rattle.osek_base.specs.declared.ids.Owner.{Owner}
use Rattle.osek_base.specs.declared.task.Action.{Action}
use Rattle.osek_base.specs.Alarm.{alarms_advanced, count, due_alarms, expiry, is_due}
use Rattle.osek_base.specs.Proper.{IsProper}
use Rattle.osek_base.specs.State.{Expiry}
use Rattle.osek_base.specs.System.{System, alarm}
use Rattle.osek_base.specs.Tick.{action_call}
use Rattle.law_kept.specs.Kept.{Kept}
use Rattle.law_kept.specs.KeptService.{ByNobody, bare, task_state_in, unasked_in}
use Rattle.law_kept.specs.Moves.{KeptRecorded}
use Rattle.law_kept.specs.Seen.{routine_of}
use Rattle.law_kept.specs.KeptTick.{advanced_in}
use Rattle.seen_ticks.specs.Told.{acting_in, if_refused, refused_by, refused_of_in, task_at_in}
use Rattle.law_future.specs.Need.{HaveAsked}
use Rattle.law_future.specs.Alike.{AreAlikeBy, TicksAreAlikeBy, untimed}
use Rattle.law_future.proofs.Commutes.{alarms_act}
use Rattle.law_future.proofs.Tables.{filter_same, one_due}
use Rattle.law_future.proofs.Ticks.{ticks_alike}
use Rattle.law_future.proofs.Timed.{as_retimed, retimed}
use Rattle.seen_ticks.specs.Observed.{activations_by, answered, ending, executed_in, failure_of, is_among, is_by, is_number, is_waiting, lost_of, one_if, owner_of, refusing, state_seen, times}
use Rattle.law_seen.specs.Shown.{KeptTicked, ticked_in, jobs_before_in, task_seen_in, routine_seen_in, holders_seen_in, alarm_seen_in}
use Rattle.law_seen.specs.ShownAlike.{AreShownAlike, AlikeShow}

-- ---- alarms that act

module _ (S : System) (u : ℕ) (bs : List (Option Expiry)) where
  answer_untimed : (act : Action) (o : Kept)
      → (unasked_in S ByNobody (retimed u bs o) (action_call act)).status
      ≡ (unasked_in S ByNobody o (action_call act)).status
  unfolding unasked_in
  answer_untimed (Action.ActivateTask t) o = refl
  answer_untimed (Action.SetEvent t m) o = refl

  refused_untimed : (due : List ℕ) (o : Kept)
      → refused_of_in S due (retimed u bs o) ≡ refused_of_in S due o
  refused_untimed [] o = refl
  refused_untimed (a ∷ due) o =
      let status = answer_untimed (alarm S a).action o in
      let state : (acting_in S a (retimed u bs o)).state ≡ retimed u bs (acting_in S a o).state =
      ap (λ (r : KeptRecorded). r.state) (alarms_act S u bs (a ∷ []) o) in
      (λ i. if_refused a (status i) ++ refused_of_in S due (state i))
      ∙ ap (λ v. if_refused a (acting_in S a o).status ++ v)
      (refused_untimed due (acting_in S a o).state)

module _ (S : System) (valued : ℕ → Bool) (o p : Kept) (alike : AreAlikeBy S valued o p) where
  due_same : due_alarms S (bare o) ≡ due_alarms S (bare p)
  due_same =
      filter_same (is_due S (bare o)) (is_due S (bare p)) (length S.alarms)
      (λ a inside. one_due (count S (bare o) a) (count S (bare p) a) (expiry (bare o) a)
      (expiry (bare p) a) (alike.alarms a inside))

  refused_same : (due : List ℕ) → refused_of_in S due (advanced_in S o)
      ≡ refused_of_in S due (advanced_in S p)
  refused_same due =
      refused_untimed S o.tick (alarms_advanced S (bare o)) due o
      ∙ sym (refused_untimed S p.tick (alarms_advanced S (bare p)) due o)
      ∙ sym (ap (λ (x : Kept). refused_of_in S due
      (record x { tick = p.tick; alarms = alarms_advanced S (bare p) }))
      (as_retimed o p alike.rest))

  refusing_same : refused_by S o ≡ refused_by S p
  refusing_same =
      ap (λ v. refused_of_in S v (advanced_in S o)) due_same
      ∙ refused_same (due_alarms S (bare p))

-- ---- a tick

module _ (S : System) (proper : IsProper S) (valued : ℕ → Bool) (asked : HaveAsked S valued)
    (first : Bool) (arrived : List ℕ) (o p : Kept) (alike : AreAlikeBy S valued o p) where
  abbrev one : KeptTicked
  one = ticked_in S first arrived o

  abbrev other : KeptTicked
  other = ticked_in S first arrived p

  both : TicksAreAlikeBy S valued arrived o p
  both = ticks_alike S proper valued asked arrived o p alike

  executed : one.executed ≡ other.executed
  executed = ap executed_in both.events

  due : one.due ≡ other.due
  due = due_same S valued o p alike

  refused : one.refused ≡ other.refused
  refused = refusing_same S valued o p alike

  at : untimed one.at ≡ untimed other.at
  at = both.executing

  after : untimed one.after ≡ untimed other.after
  after = both.after.rest

  tasks : (t : ℕ) → task_seen_in S one t ≡ task_seen_in S other t
  tasks t = λ i. record {
    state = state_seen (is_by (Owner.Task t) (executed i)) (task_at_in S (at i) t).state;
    priority = (task_at_in S (at i) t).priority;
    jobs = (task_at_in S (at i) t).jobs;
    made =
        ((after i).slots t).count + one_if (is_number t (ending S (executed i)))
        - jobs_before_in first (alike.rest i) t;
    refused = one_if (is_number t (refusing S (executed i))) + activations_by S t (refused i);
    ended = is_number t (ending S (executed i));
    waits = is_by (Owner.Task t) (executed i) && is_waiting (task_state_in (after i) t);
  }

  routines : (r : ℕ) → routine_seen_in one r ≡ routine_seen_in other r
  routines r = λ i. record {
    executes = is_by (Owner.Routine r) (executed i);
    is_pending = slice_index_or (at i).pending r false;
    is_started =
        is_by (Owner.Routine r) (executed i)
        && not (is_number r (option_map routine_of (alike.rest i).active));
    arrived = times r arrived;
    lost = lost_of (slice_index_or (alike.rest i).pending r false) (times r arrived);
  }

  alarms : (a : ℕ) → alarm_seen_in one a ≡ alarm_seen_in other a
  alarms a = λ i. record {
    has_expired = is_among (due i) a;
    is_refused = is_among (refused i) a;
  }

  pub shown : AreShownAlike S one other
  shown = record {
    executor = ap (option_map owner_of) executed;
    answered = ap answered executed;
    failure = ap failure_of executed;
    tasks = tasks;
    routines = routines;
    holders = ap (holders_seen_in S) at;
    alarms = alarms;
  }

pub alike_show : AlikeShow
alike_show S valued first arrived o p proper asked alike =
    shown S proper valued asked first arrived o p alike
