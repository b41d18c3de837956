-- Each phase of a tick but the instruction records what is in range, and leaves words.
use Rattle.std.proofs.Common.{ℕ, ◌≡◌, ◌<◌, ◌≤◌, ◌+◌, ◌/◌, inl, inr, Bool, true, false, cond, ◌&&◌, List, [], ◌∷◌, ◌++◌, map, length, get_or, refl, subst, sym, ◌∙◌, ap, arith}
use Rattle.std.specs.Prelude.{Option, Some, None, IfSome, ◌==◌}
use Rattle.std.specs.List.{AllByRecursion}
use Rattle.std.specs.Option.{option_map}
use Rattle.std.proofs.Math.Nat.{div-mul-le_self, div-zero}
use Rattle.std.proofs.lemmas.Bool.{and_parts, cases_lt, eqb-true}
use Rattle.std.proofs.lemmas.List.{get_or_past}
use Rattle.std.proofs.lemmas.Nat.{le-div}
use Rattle.osek_base.specs.declared.instr.Instr.{Instr}
use Rattle.osek_base.specs.declared.task.Action.{Action}
use Rattle.osek_base.specs.declared.trace_event.Source.{Source}
use Rattle.osek_base.specs.declared.trace_event.TraceEvent.{TraceEvent}
use Rattle.osek_base.specs.Alarm.{alarms_advanced, count, due_alarms, expiry, is_due, is_due_at, renewed}
use Rattle.osek_base.specs.Choice.{choice}
use Rattle.osek_base.specs.Lists.{below}
use Rattle.osek_base.specs.Proper.{IsProper, is_proper_action, is_proper_mask}
use Rattle.osek_base.specs.Reschedule.{entered, entered_record, id_of, jobs_entered, left_record, reschedule, switch_records, switched, with_dispatch_of}
use Rattle.osek_base.specs.Service.{NobodyCalls, unasked_service}
use Rattle.osek_base.specs.State.{Expiry, Job, JobId, State, may_dispatch, same_id}
use Rattle.osek_base.specs.System.{System, alarm, counter_of}
use Rattle.osek_base.specs.Tick.{action_call, alarm_acts, alarm_phase, alarms_act, arrival_phase, before_execution, last_phase, routine_choice, routine_started, start_phase, with_start_of}
use Rattle.law_runs.proofs.Known.{all_below, proper_alarm_at}
use Rattle.law_runs.proofs.Lists.{all_append, all_kept, cond_both}
use Rattle.law_future.proofs.Tables.{length-table, table_at}
use Rattle.law_lines.proofs.Events.{IsInRange}
use Rattle.law_lines.proofs.Instructions.{IsAllowed, proper_mask}
use Rattle.law_lines.specs.HeldWords.{AreWords, IsNear}
use Rattle.law_lines.proofs.Words.{AreOperands, HasWords, IsWordJob, jobs_changed, no_words, of_action, of_jobs}
use Rattle.law_lines.proofs.Executing.{IsRecorded, error_range, hooked_range}

both_true : (a b : Bool) → a ≡ true → b ≡ true → (a && b) ≡ true
both_true true b one other = other
both_true false b one other = one

module _ (S : System) where
  -- ---- alarms

  renewed_near : (n : ℕ) (e : Option Expiry) → IsNear n e
      → IsNear n (cond (is_due_at n e) (renewed e) e)
  renewed_near n None near = tt
  renewed_near n (Some e) near = go (e.count == n) refl (e.cycle == 0)
    where
      go : (b : Bool) → (e.count == n) ≡ b → (c : Bool)
          → IsNear n
          (cond b (cond c None (Some (record e { count = e.count + e.cycle }))) (Some e))
      go true now true = tt
      go true now false =
          let is = eqb-true e.count n now in
          let few = near.1 in
          (omega (arith, is, few), few)
      go false now c = near

  advanced_words : (s : State) → HasWords S s
      → HasWords S (record s { alarms = alarms_advanced S s })
  advanced_words s h = record {
    objects = record {
      jobs = h.objects.jobs;
      shared = h.objects.shared;
      masks = h.objects.masks;
      alarms = near;
    };
    active = h.active;
    words = h.words;
  }
    where
      new : ℕ → Option Expiry
      new a = cond (is_due S s a) (renewed (expiry s a)) (expiry s a)

      near : (a : ℕ) → IsNear (count S s a) (get_or (map new (below (length S.alarms))) a None)
      near a = elim (cases_lt a (length S.alarms)) [
        | inl inside ↦
            subst (IsNear (count S s a)) (sym (table_at new (length S.alarms) a None inside))
            (renewed_near (count S s a) (expiry s a) (h.objects.alarms a))
        | inr past ↦
            let long = length-table new (length S.alarms) in
            subst (IsNear (count S s a))
            (sym (get_or_past (map new (below (length S.alarms))) a None
            (omega (arith, past, long)))) tt
      ]

  allowed_action : (action : Action) → is_proper_action S action ≡ true
      → IsAllowed S (Instr.Service (action_call action)) × AreOperands (action_call action)
  allowed_action (Action.ActivateTask t) proper =
      (record { in_routine = false; size = 0; few = omega arith; operands = proper }, tt)
  allowed_action (Action.SetEvent t m) proper =
      let both = and_parts _ (is_proper_mask m) proper in
      let known = and_parts _ _ both.0 in
      let all = both_true _ _ known.0 both.1 in (
        record { in_routine = false; size = 0; few = omega arith; operands = all },
        proper_mask m both.1,
      )

  module _ (proper : IsProper S) where
    alarms_recorded : (due : List ℕ) → AllByRecursion (λ a. a < length S.alarms) due
        → (s : State) → HasWords S s → IsRecorded S (alarms_act S due s)
    alarms_recorded [] all s h = record { events = tt; state = h }
    alarms_recorded (a ∷ due) all s h =
        let action = allowed_action (alarm S a).action
        (and_parts _ _ (and_parts _ _ (proper_alarm_at S a proper all.0)).0).1 in
        let call = action_call (alarm S a).action in
        let reply = unasked_service S NobodyCalls s call in
        let rest = alarms_recorded due all.1 (alarm_acts S a s).state
        (of_action S proper s h call action.1) in
        record {
          events = all_append (IsInRange S) (alarm_acts S a s).events
              (alarms_act S due (alarm_acts S a s).state).events
              (error_range S (Source.Alarm a) (Instr.Service call) reply.status action.0)
              rest.events;
          state = rest.state;
        }

    alarm_phase_recorded : (s : State) → HasWords S s → IsRecorded S (alarm_phase S s)
    unfolding alarm_phase
    alarm_phase_recorded s h =
        alarms_recorded (due_alarms S s)
        (all_kept (λ a. a < length S.alarms) (is_due S s) (below (length S.alarms))
        (all_below (length S.alarms)))
        (record s { alarms = alarms_advanced S s }) (advanced_words s h)

  -- ---- reschedules

  left_range : (o : Option JobId) → AllByRecursion (IsInRange S) (left_record S o)
  left_range None = tt
  left_range (Some old) = hooked_range S S.hooks.post_task (TraceEvent.Post old.task) tt

  entered_range : (o : Option JobId) → AllByRecursion (IsInRange S) (entered_record S o)
  entered_range None = tt
  entered_range (Some new) = hooked_range S S.hooks.pre_task (TraceEvent.Pre new.task) tt

  switch_range : (o n : Option JobId) → AllByRecursion (IsInRange S) (switch_records S o n)
  switch_range None None = tt
  switch_range None (Some new) = entered_range (Some new)
  switch_range (Some old) None = left_range (Some old)
  switch_range (Some old) (Some new) =
      cond_both (AllByRecursion (IsInRange S)) (same_id old new) []
      (left_record S (Some old) ++ entered_record S (Some new)) tt
      (all_append (IsInRange S) (left_record S (Some old)) (entered_record S (Some new))
      (left_range (Some old)) (entered_range (Some new)))

  entered_words : (o : Option Job) (jobs : List Job) → AllByRecursion IsWordJob jobs
      → AllByRecursion IsWordJob (jobs_entered S o jobs)
  entered_words None jobs all = all
  entered_words (Some j) jobs all = jobs_changed j.id (entered S) jobs (λ k own. own) all

  pub reschedule_recorded : (s : State) → HasWords S s → IsRecorded S (reschedule S s)
  unfolding reschedule
  reschedule_recorded s h = go (may_dispatch s)
    where
      go : (b : Bool)
          → IsRecorded S
          (with_dispatch_of s
          (cond b (switched S (choice S s.jobs) s) (record { events = []; state = s })))
      go true = record {
        events = switch_range s.running (option_map id_of (choice S s.jobs));
        state = record {
          objects = of_jobs S s.tick s h.objects (jobs_entered S (choice S s.jobs) s.jobs)
              (entered_words (choice S s.jobs) s.jobs h.objects.jobs);
          active = h.active;
          words = h.words;
        };
      }
      go false = record { events = tt; state = h }

  -- ---- phases 1 to 4, and 6

  started_words : (s : State) (o : Option ℕ) → HasWords S s
      → IfSome (routine_started o s).active (λ a. AreWords a.context.registers)
  started_words s None h = h.active
  started_words s (Some i) h = no_words 8

  start_words : (s : State) → HasWords S s → HasWords S (start_phase S s)
  unfolding start_phase
  start_words s h = go (may_dispatch s)
    where
      go : (b : Bool)
          → HasWords S (with_start_of s (cond b (routine_started (routine_choice S s) s) s))
      go true =
          let active = started_words s (routine_choice S s) h in
          record { objects = h.objects; active = active; words = h.words }
      go false = h

  pub before_recorded : (proper : IsProper S) (arrived : List ℕ) (s : State) → HasWords S s
      → IsRecorded S (before_execution S arrived s)
  before_recorded proper arrived s h =
      let acted = alarm_phase_recorded proper s h in
      let due = (alarm_phase S s).state in
      let dispatched = reschedule_recorded (arrival_phase arrived due) acted.state in
      record {
        events = all_append (IsInRange S) (alarm_phase S s).events
            (reschedule S (arrival_phase arrived due)).events
            acted.events dispatched.events;
        state = start_words (reschedule S (arrival_phase arrived due)).state dispatched.state;
      }

  pub last_recorded : (s : State) → HasWords S s → IsRecorded S (last_phase S s)
  last_recorded s h =
      cond_both (IsRecorded S) s.over (record { events = []; state = s }) (reschedule S s)
      (record { events = tt; state = h }) (reschedule_recorded s h)

  -- ---- the next tick

  no_less : (t b : ℕ) → t / b ≤ (t + 1) / b
  no_less t b = elim (cases_lt 0 b) [
    | inl some ↦
        let down = div-mul-le_self t b in
        le-div (t / b) (t + 1) b some (omega (arith, down))
    | inr least ↦
        let none : b ≡ 0 = omega (arith, least) in
        let is : t / b ≡ 0 = ap (λ k. t / k) none ∙ div-zero t in
        omega (arith, is)
  ]

  later_near : (t b : ℕ) (e : Option Expiry) → IsNear (t / b) e → IsNear ((t + 1) / b) e
  later_near t b None near = tt
  later_near t b (Some e) near =
      let more = no_less t b in
      let low = near.0 in
      (omega (arith, more, low), near.1)

  pub later_words : (s : State) → HasWords S s → HasWords S (record s { tick = s.tick + 1 })
  later_words s h = record {
    objects = record {
      jobs = h.objects.jobs;
      shared = h.objects.shared;
      masks = h.objects.masks;
      alarms = λ a. later_near s.tick (counter_of S a).ticks_per_base (expiry s a)
          (h.objects.alarms a);
    };
    active = h.active;
    words = h.words;
  }
