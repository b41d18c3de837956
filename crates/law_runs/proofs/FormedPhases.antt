-- The phases before the instruction keep the form of a state.
use Rattle.std.proofs.Common.{◌≡◌, ℕ, zero, suc, ◌<◌, Bool, true, false, cond, List, [], ◌∷◌, set, length, refl, sym, ◌∙◌, ap, subst, arith, length-set, length-append}
use Rattle.std.specs.Prelude.{Option, Some, None}
use Rattle.std.specs.List.{AllByRecursion}
use Rattle.std.proofs.lemmas.List.{length-map}
use Rattle.osek_base.specs.declared.ids.Owner.{Owner}
use Rattle.osek_base.specs.Types.{ServiceCall}
use Rattle.osek_base.specs.Lists.{below}
use Rattle.osek_base.specs.System.{System, alarm}
use Rattle.osek_base.specs.State.{Job, State, may_dispatch}
use Rattle.osek_base.specs.Alarm.{is_due, due_alarms, alarms_advanced}
use Rattle.osek_base.specs.Choice.{choice}
use Rattle.osek_base.specs.Reschedule.{entered, jobs_entered, switched, with_dispatch_of, reschedule}
use Rattle.osek_base.specs.Service.{Caller, NobodyCalls, unasked_service}
use Rattle.osek_base.specs.Tick.{action_call, alarm_acts, alarms_act, alarm_phase, flagged, arrival_phase, routine_choice, routine_started, with_start_of, start_phase, before_execution}
use Rattle.osek_base.specs.Proper.{IsProper}
use Rattle.osek_base.proofs.PlaceLemmas.{some_program}
use Rattle.law_runs.proofs.Lists.{all_kept, found}
use Rattle.law_runs.proofs.Known.{ActivatesKnown, all_below}
use Rattle.law_runs.proofs.SingleTick.{alarm_known}
use Rattle.law_runs.proofs.Formed.{IsPlacedJob, HasActive, IsLimited, HasForm}
use Rattle.law_runs.proofs.FormedService.{change_formed, unasked_formed}

pending_unasked : (S : System) (s : State) (c : Caller) (call : ServiceCall) → (unasked_service S c s call).state.pending ≡ s.pending
unfolding unasked_service
pending_unasked S s c call = refl

active_unasked : (S : System) (s : State) (c : Caller) (call : ServiceCall) → (unasked_service S c s call).state.active ≡ s.active
unfolding unasked_service
active_unasked S s c call = refl

module _ (S : System) (proper : IsProper S) where
  pub acts_form : (s : State) (call : ServiceCall) → ActivatesKnown S call → HasForm S s → HasForm S (unasked_service S NobodyCalls s call).state
  acts_form s call known form = record {
    formed = unasked_formed S proper s NobodyCalls call tt known form.formed;
    pending = ap length (pending_unasked S s NobodyCalls call) ∙ form.pending;
    active = subst (HasActive S) (sym (active_unasked S s NobodyCalls call)) form.active;
  }

  alarms_form : (due : List ℕ) → AllByRecursion (λ a. a < length S.alarms) due → (s : State) → HasForm S s → HasForm S (alarms_act S due s).state
  alarms_form [] all s form = form
  alarms_form (a ∷ due) all s form =
      alarms_form due all.1 (alarm_acts S a s).state (acts_form s (action_call (alarm S a).action) (alarm_known S a proper all.0) form)

  length_below : (n : ℕ) → length (below n) ≡ n
  length_below zero = refl
  length_below (suc n) = let rest = length_below n in omega (arith, length-append (below n) (n ∷ []))

  pub advanced_form : (s : State) → HasForm S s → HasForm S (record s { alarms = alarms_advanced S s })
  advanced_form s form = record {
    formed = record {
      masks = form.formed.masks;
      alarms = length-map (below (length S.alarms)) _ ∙ length_below (length S.alarms);
      jobs = form.formed.jobs;
      limited = form.formed.limited;
    };
    pending = form.pending;
    active = form.active;
  }

  alarm_phase_form : (s : State) → HasForm S s → HasForm S (alarm_phase S s).state
  unfolding alarm_phase
  alarm_phase_form s form =
      alarms_form (due_alarms S s) (all_kept (λ a. a < length S.alarms) (is_due S s) (below (length S.alarms)) (all_below (length S.alarms)))
      (record s { alarms = alarms_advanced S s }) (advanced_form s form)

  flagged_length : (arrived : List ℕ) (flags : List Bool) → length (flagged arrived flags) ≡ length flags
  flagged_length [] flags = refl
  flagged_length (i ∷ arrived) flags = flagged_length arrived (set flags i true) ∙ length-set flags i true

  arrival_form : (arrived : List ℕ) (s : State) → HasForm S s → HasForm S (arrival_phase arrived s)
  arrival_form arrived s form = record {
    formed = record { masks = form.formed.masks; alarms = form.formed.alarms; jobs = form.formed.jobs; limited = form.formed.limited };
    pending = flagged_length arrived s.pending ∙ form.pending;
    active = form.active;
  }

  entered_formed : (o : Option Job) (jobs : List Job) → AllByRecursion (IsPlacedJob S) jobs → IsLimited S jobs
      → AllByRecursion (IsPlacedJob S) (jobs_entered S o jobs) × IsLimited S (jobs_entered S o jobs)
  entered_formed None jobs all limited = (all, limited)
  entered_formed (Some c) jobs all limited =
      change_formed S proper c.id (entered S) jobs (λ k. refl) (λ k e h. record { task = h.task; context = h.context }) all limited

  pub reschedule_form : (s : State) → HasForm S s → HasForm S (reschedule S s).state
  unfolding reschedule
  reschedule_form s form = go (may_dispatch s)
    where
      go : (b : Bool) → HasForm S (with_dispatch_of s (cond b (switched S (choice S s.jobs) s) (record { events = []; state = s }))).state
      go true =
          let both = entered_formed (choice S s.jobs) s.jobs form.formed.jobs form.formed.limited in
          record {
            formed = record { masks = form.formed.masks; alarms = form.formed.alarms; jobs = both.0; limited = both.1 };
            pending = form.pending;
            active = form.active;
          }
      go false = record {
        formed = record { masks = form.formed.masks; alarms = form.formed.alarms; jobs = form.formed.jobs; limited = form.formed.limited };
        pending = form.pending;
        active = form.active;
      }

  started_form : (s : State) (o : Option ℕ) → routine_choice S s ≡ o → HasForm S s
      → (length (routine_started o s).pending ≡ length S.routines) × HasActive S (routine_started o s).active
  started_form s None e form = (form.pending, form.active)
  started_form s (Some i) e form =
      let inside : i < length S.routines =
      (found (λ n. n < length S.routines) _ (below (length S.routines)) i (all_below (length S.routines)) e).0 in (
        length-set s.pending i false ∙ form.pending,
        record { routine = inside; context = record { registers = refl; place = some_program S (Owner.Routine i) proper inside } },
      )

  pub start_form : (s : State) → HasForm S s → HasForm S (start_phase S s)
  unfolding start_phase
  start_form s form = go (may_dispatch s)
    where
      go : (b : Bool) → HasForm S (with_start_of s (cond b (routine_started (routine_choice S s) s) s))
      go true =
          let both = started_form s (routine_choice S s) refl form in
          record {
            formed = record { masks = form.formed.masks; alarms = form.formed.alarms; jobs = form.formed.jobs; limited = form.formed.limited };
            pending = both.0;
            active = both.1;
          }
      go false = record {
        formed = record { masks = form.formed.masks; alarms = form.formed.alarms; jobs = form.formed.jobs; limited = form.formed.limited };
        pending = form.pending;
        active = form.active;
      }

  pub before_form : (arrived : List ℕ) (s : State) → HasForm S s → HasForm S (before_execution S arrived s).state
  before_form arrived s form =
      start_form (reschedule S (arrival_phase arrived (alarm_phase S s).state)).state
      (reschedule_form (arrival_phase arrived (alarm_phase S s).state) (arrival_form arrived (alarm_phase S s).state (alarm_phase_form s form)))
