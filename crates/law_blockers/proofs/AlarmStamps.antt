-- The stamps of all tasks' jobs while due alarms act.
use Rattle.std.proofs.Common.{◌≡◌, ℕ, ◌<◌, List, [], ◌∷◌, length, refl, ◌∙◌, ap, subst, arith}
use Rattle.std.specs.List.{AllByRecursion}
use Rattle.osek_base.specs.declared.task.Action.{Action}
use Rattle.osek_base.specs.Lists.{below}
use Rattle.osek_base.specs.System.{System, alarm}
use Rattle.osek_base.specs.State.{State}
use Rattle.osek_base.specs.Service.{NobodyCalls, unasked_service}
use Rattle.osek_base.specs.Alarm.{is_due, due_alarms, alarms_advanced}
use Rattle.osek_base.specs.Tick.{action_call, alarm_acts, alarms_act, alarm_phase}
use Rattle.osek_base.specs.Proper.{IsProper}
use Rattle.law_runs.proofs.Lists.{all_kept}
use Rattle.law_runs.proofs.Known.{ActivatesKnown, all_below}
use Rattle.law_runs.proofs.SingleTick.{alarm_known}
use Rattle.law_runs.proofs.RankedTick.{IsRunState, action_run}
use Rattle.law_runs.proofs.Formed.{HasForm}
use Rattle.law_runs.proofs.FormedPhases.{acts_form, advanced_form}
use Rattle.law_kept.specs.Kept.{Kept, kept}
use Rattle.law_kept.specs.KeptService.{KeptReply, ByNobody, unasked_in}
use Rattle.law_kept.specs.KeptTick.{alarms_act_in, alarm_phase_in}
use Rattle.law_kept.proofs.Ticked.{settled_of, known_of}
use Rattle.law_kept.proofs.Served.{acts}
use Rattle.law_blockers.specs.Stamps.{Stamps, stamped}
use Rattle.law_blockers.specs.Restamping.{StampLists, restamped_at, acting_task, alarm_restamped, alarms_restamped, alarm_phase_restamped, AreListed}
use Rattle.law_blockers.proofs.RestampedLemmas.{IsLooked, activate_restamped, set_event_restamped}
use Rattle.law_blockers.proofs.ListLemmas.{restamped_lists, same_lists, twice_lists}
use Rattle.law_blockers.proofs.OnlyWakes.{OnlyWakes, wakes_none, wakes_both, wakes_one, activate_wakes, set_event_wakes}
use Rattle.law_blockers.proofs.FreshStamps.{AreFresh, IsMadeSince, stamped_fresh, since_itself, since_both, unasked_since}
use Rattle.law_blockers.proofs.KnownTasks.{acts_task}

-- what one action of an alarm makes
abbrev pub acted_on : System → State → Action → State
acted_on S s act = (unasked_service S NobodyCalls s (action_call act)).state

module _ (S : System) (proper : IsProper S) (s : State) (u : ℕ) (p : Stamps) (fresh : AreFresh p s) where
  -- a state that alarms reached in this half of a tick, and the lists of the stamps in it
  pub record IsReached (xs : StampLists) (m : State) : Type 0 where
    pub good : IsRunState S m
    pub form : HasForm S m
    pub only : OnlyWakes s m
    pub since : IsMadeSince s m
    pub listed : AreListed S xs (stamped s m u p) m

  act_restamped : (m : State) (xs : StampLists) → IsReached xs m → (act : Action)
      → IsLooked S u (acting_task act) m (acted_on S m act) (stamped s m u p)
  act_restamped m xs reached (Action.ActivateTask t) =
      activate_restamped S m u (stamped s m u p) reached.good.single NobodyCalls t
      (stamped_fresh S s m u p fresh reached.since reached.good.single t _ (omega arith))
  act_restamped m xs reached (Action.SetEvent t e) =
      set_event_restamped S m u (stamped s m u p) reached.good.single NobodyCalls t e

  act_wakes : (m : State) (xs : StampLists) → IsReached xs m → (act : Action) → OnlyWakes m (acted_on S m act)
  act_wakes m xs reached (Action.ActivateTask t) = activate_wakes S m reached.good.single NobodyCalls t
  act_wakes m xs reached (Action.SetEvent t e) = set_event_wakes S m reached.good.single NobodyCalls t e

  act_kept : (m : State) (xs : StampLists) → IsReached xs m → (act : Action)
      → kept S (acted_on S m act) ≡ (unasked_in S ByNobody (kept S m) (action_call act)).state
  act_kept m xs reached act =
      ap (λ (r : KeptReply). r.state)
      (acts S m (settled_of S m reached.good.single reached.good.ordered.ranked) (known_of S m reached.form)
      reached.good.ordered.ready (action_call act))

  act_reached : (m : State) (xs : StampLists) → IsReached xs m → (act : Action) → acting_task act < length S.tasks
      → ActivatesKnown S (action_call act)
      → IsReached (restamped_at u (acting_task act) (kept S m)
      (unasked_in S ByNobody (kept S m) (action_call act)).state xs)
      (acted_on S m act)
  act_reached m xs reached act inside known =
      let wakes : OnlyWakes m (acted_on S m act) = act_wakes m xs reached act in
      record {
        good = action_run S proper m act known reached.good;
        form = acts_form S proper m (action_call act) known reached.form;
        only = wakes_both s m (acted_on S m act) reached.only wakes;
        since = since_both s m (acted_on S m act) reached.since (unasked_since S m NobodyCalls (action_call act));
        listed =
            subst (λ (o : Kept). AreListed S (restamped_at u (acting_task act) (kept S m) o xs)
            (stamped s (acted_on S m act) u p) (acted_on S m act))
            (act_kept m xs reached act)
            (twice_lists S s m (acted_on S m act) u p
            (restamped_at u (acting_task act) (kept S m) (kept S (acted_on S m act)) xs)
            (restamped_lists S m (acted_on S m act) u (stamped s m u p) xs reached.listed (acting_task act) inside
            (act_restamped m xs reached act))
            (λ n there. wakes_one s m (acted_on S m act) reached.only wakes.waits n));
      }

  -- one alarm, and alarms in turn
  alarm_reached : (a : ℕ) → a < length S.alarms → (m : State) (xs : StampLists) → IsReached xs m
      → IsReached (alarm_restamped S u a (kept S m) xs) (alarm_acts S a m).state
  alarm_reached a inside m xs reached =
      act_reached m xs reached (alarm S a).action (acts_task S a (alarm S a).action proper inside refl)
      (alarm_known S a proper inside)

  pub alarms_listed : (due : List ℕ) → AllByRecursion (λ a. a < length S.alarms) due → (m : State) (xs : StampLists)
      → IsReached xs m → IsReached (alarms_restamped S u due (kept S m) xs) (alarms_act S due m).state
  alarms_listed [] all m xs reached = reached
  alarms_listed (a ∷ due) all m xs reached =
      subst (λ (o : Kept). IsReached (alarms_restamped S u due o (alarm_restamped S u a (kept S m) xs))
      (alarms_act S due (alarm_acts S a m).state).state)
      (act_kept m xs reached (alarm S a).action)
      (alarms_listed due all.1 (alarm_acts S a m).state (alarm_restamped S u a (kept S m) xs)
      (alarm_reached a all.0 m xs reached))

  pub alarms_kept : (due : List ℕ) → AllByRecursion (λ a. a < length S.alarms) due → (m : State) (xs : StampLists)
      → IsReached xs m → kept S (alarms_act S due m).state ≡ (alarms_act_in S due (kept S m)).state
  alarms_kept [] all m xs reached = refl
  alarms_kept (a ∷ due) all m xs reached =
      alarms_kept due all.1 (alarm_acts S a m).state (alarm_restamped S u a (kept S m) xs)
      (alarm_reached a all.0 m xs reached)
      ∙ ap (λ (o : Kept). (alarms_act_in S due o).state) (act_kept m xs reached (alarm S a).action)

  -- ---- the phase

  module _ (good : IsRunState S s) (form : HasForm S s) (xs : StampLists) (are : AreListed S xs p s) where
    advanced_reached : IsReached xs (record s { alarms = alarms_advanced S s })
    advanced_reached = record {
      good = record { single = good.single; ordered = good.ordered };
      form = advanced_form S proper s form;
      only = wakes_none s (record s { alarms = alarms_advanced S s }) refl refl;
      since = since_itself s (record s { alarms = alarms_advanced S s }) refl;
      listed = same_lists S s (record s { alarms = alarms_advanced S s }) u p xs are refl refl;
    }

    all_due : AllByRecursion (λ a. a < length S.alarms) (due_alarms S s)
    all_due = all_kept (λ a. a < length S.alarms) (is_due S s) (below (length S.alarms)) (all_below (length S.alarms))

    pub alarm_phase_listed : IsReached (alarm_phase_restamped S u (kept S s) xs) (alarm_phase S s).state
    unfolding alarm_phase
    alarm_phase_listed = alarms_listed (due_alarms S s) all_due
        (record s { alarms = alarms_advanced S s }) xs advanced_reached

    pub alarm_phase_kept : kept S (alarm_phase S s).state ≡ (alarm_phase_in S (kept S s)).state
    unfolding alarm_phase alarm_phase_in
    alarm_phase_kept = alarms_kept (due_alarms S s) all_due
        (record s { alarms = alarms_advanced S s }) xs advanced_reached
