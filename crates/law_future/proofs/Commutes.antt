-- Steps that neither read nor change the tick and the alarms: they do the same at each tick, with all alarms.
use Rattle.std.proofs.Common.{◌≡◌, ℕ, suc, Bool, true, false, cond, nat_le, List, [], ◌∷◌, ◌++◌, refl, ◌∙◌, ap}
use Rattle.std.specs.Prelude.{Option, Some, None, slice_index, bit_or}
use Rattle.osek_base.specs.declared.instr.Service.{Service}
use Rattle.osek_base.specs.declared.task.Action.{Action}
use Rattle.osek_base.specs.declared.instr.Control.{Control}
use Rattle.osek_base.specs.declared.status.Status.{Status}
use Rattle.osek_base.specs.System.{System, alarm}
use Rattle.osek_base.specs.Ceiling.{top_priority}
use Rattle.osek_base.specs.Instruction.{Context}
use Rattle.osek_base.specs.State.{Expiry}
use Rattle.osek_base.specs.Service.{first_refusal, is_met, meets}
use Rattle.osek_base.specs.Tick.{action_call, routine_choice}
use Rattle.law_kept.specs.Kept.{Kept, Slot}
use Rattle.ready_queues.specs.QueueMoves.{highest}
use Rattle.law_kept.specs.Moves.{KeptRecorded, released_in, slot_changed, contender, dynamic_in, chosen, may_dispatch_in, rescheduled}
use Rattle.law_kept.specs.KeptService.{KeptCaller, ByTask, ByRoutine, ByNobody, bare, with_mask, with_caller_in, caller_ended_in, slot_given_up, slot_waiting, slot_moved, events_cleared_in, event_awaited_in, is_outranked_in, refusals_in, reply_in, unasked_in}
use Rattle.law_kept.specs.KeptTick.{and_then_in, alarm_reply_in, alarm_acts_in, alarms_act_in, controlled_in, with_context_in, routine_started_in, start_phase_in, last_phase_in}
use Rattle.law_future.proofs.Timed.{retimed, recorded_at, reply_at}

module _ (S : System) (u : ℕ) (bs : List (Option Expiry)) where
  pub either : (b : Bool) (x y : Kept) → cond b (retimed u bs x) (retimed u bs y) ≡ retimed u bs (cond b x y)
  either true x y = refl
  either false x y = refl

  either_recorded : (b : Bool) (x y : KeptRecorded) → cond b (recorded_at u bs x) (recorded_at u bs y) ≡ recorded_at u bs (cond b x y)
  either_recorded true x y = refl
  either_recorded false x y = refl

  -- ---- parts of services

  pub ends : (d : KeptCaller) (o : Kept) → caller_ended_in d (retimed u bs o) ≡ retimed u bs (caller_ended_in d o)
  ends (ByTask t) o = refl
  ends ByRoutine o = refl
  ends ByNobody o = refl

  pub changes : (d : KeptCaller) (g : Slot → Slot) (o : Kept) → with_caller_in d g (retimed u bs o) ≡ retimed u bs (with_caller_in d g o)
  changes (ByTask t) g o = refl
  changes ByRoutine g o = refl
  changes ByNobody g o = refl

  outranked : (d : KeptCaller) (o : Kept) → is_outranked_in S (retimed u bs o) d ≡ is_outranked_in S o d
  outranked (ByTask t) o = refl
  outranked ByRoutine o = refl
  outranked ByNobody o = refl

  gives_up_where : (d : KeptCaller) (o : Kept) (b : Bool)
      → cond b (with_caller_in d slot_given_up (retimed u bs o)) (retimed u bs o) ≡ retimed u bs (cond b (with_caller_in d slot_given_up o) o)
  gives_up_where d o true = changes d slot_given_up o
  gives_up_where d o false = refl

  pub gives_up : (d : KeptCaller) (o : Kept)
      → cond (is_outranked_in S (retimed u bs o) d) (with_caller_in d slot_given_up (retimed u bs o)) (retimed u bs o)
      ≡ retimed u bs (cond (is_outranked_in S o d) (with_caller_in d slot_given_up o) o)
  gives_up d o =
      ap (λ b. cond b (with_caller_in d slot_given_up (retimed u bs o)) (retimed u bs o)) (outranked d o)
      ∙ gives_up_where d o (is_outranked_in S o d)

  pub clears : (d : KeptCaller) (m : ℕ) (o : Kept) → events_cleared_in d m (retimed u bs o) ≡ retimed u bs (events_cleared_in d m o)
  clears (ByTask t) m o = refl
  clears ByRoutine m o = refl
  clears ByNobody m o = refl

  pub awaits : (d : KeptCaller) (m : ℕ) (o : Kept) → event_awaited_in d m (retimed u bs o) ≡ retimed u bs (event_awaited_in d m o)
  awaits (ByTask t) m o = either (meets m (slice_index o.masks t)) o (slot_changed t (slot_waiting m) o)
  awaits ByRoutine m o = refl
  awaits ByNobody m o = refl

  pub sets : (t set : ℕ) (o : Kept)
      → cond (is_met set (o.slots t).waits_for) (released_in S t (with_mask t set (retimed u bs o))) (with_mask t set (retimed u bs o))
      ≡ retimed u bs (cond (is_met set (o.slots t).waits_for) (released_in S t (with_mask t set o)) (with_mask t set o))
  sets t set o = either (is_met set (o.slots t).waits_for) (released_in S t (with_mask t set o)) (with_mask t set o)

  -- ---- alarms that act

  acts_where : (action : Action) (o : Kept) (refusal : Option Status)
      → reply_in S ByNobody (retimed u bs o) (action_call action) refusal ≡ reply_at u bs (reply_in S ByNobody o (action_call action) refusal)
  acts_where (Action.ActivateTask t) o None = refl
  acts_where (Action.ActivateTask t) o (Some refusal) = refl
  acts_where (Action.SetEvent t m) o None =
      ap (λ (x : Kept). record { status = (reply_in S ByNobody o (action_call (Action.SetEvent t m)) None).status; results = (reply_in S ByNobody o (action_call (Action.SetEvent t m)) None).results; state = x })
      (sets t (bit_or (slice_index o.masks t) m) o)
  acts_where (Action.SetEvent t m) o (Some refusal) = refl

  pub acts : (action : Action) (o : Kept) → unasked_in S ByNobody (retimed u bs o) (action_call action) ≡ reply_at u bs (unasked_in S ByNobody o (action_call action))
  unfolding unasked_in
  acts (Action.ActivateTask t) o = acts_where (Action.ActivateTask t) o (first_refusal (refusals_in S ByNobody o (Service.ActivateTask (Some t))))
  acts (Action.SetEvent t m) o = acts_where (Action.SetEvent t m) o (first_refusal (refusals_in S ByNobody o (Service.SetEvent (Some t) m)))

  pub alarms_act : (due : List ℕ) (o : Kept) → alarms_act_in S due (retimed u bs o) ≡ recorded_at u bs (alarms_act_in S due o)
  alarms_act [] o = refl
  alarms_act (a ∷ due) o =
      ap (λ r. and_then_in (alarm_reply_in S a r) (alarms_act_in S due)) (acts (alarm S a).action o)
      ∙ ap (λ (r : KeptRecorded). record { events = (alarm_acts_in S a o).events ++ r.events; state = r.state })
      (alarms_act due (alarm_acts_in S a o).state)

  -- ---- the instruction's ends

  pub controls : (control : Control ℕ) (o : Kept) → controlled_in control (retimed u bs o) ≡ retimed u bs (controlled_in control o)
  controls Control.DisableAllInterrupts o = refl
  controls control o = refl

  pub moves : (d : KeptCaller) (x : Context) (o : Kept) → with_context_in d x (retimed u bs o) ≡ retimed u bs (with_context_in d x o)
  moves (ByTask t) x o = either o.gone o (slot_changed t (slot_moved x) o)
  moves ByRoutine x o = refl
  moves ByNobody x o = refl

  -- ---- phases

  starts_where : (o : Kept) (b : Bool) (i : Option ℕ)
      → cond b (routine_started_in i (retimed u bs o)) (retimed u bs o) ≡ retimed u bs (cond b (routine_started_in i o) o)
  starts_where o true None = refl
  starts_where o true (Some i) = refl
  starts_where o false i = refl

  pub starts : (o : Kept) → start_phase_in S (retimed u bs o) ≡ retimed u bs (start_phase_in S o)
  unfolding start_phase_in
  starts o = starts_where o (may_dispatch_in o) (routine_choice S (bare o))

  chooses : (running level : Option ℕ) (o : Kept) → chosen S running level (retimed u bs o) ≡ recorded_at u bs (chosen S running level o)
  chooses None None o = refl
  chooses None (Some l) o = refl
  chooses (Some t) None o = refl
  chooses (Some t) (Some l) o = either_recorded (nat_le l (dynamic_in S t (o.slots t))) _ _

  pub reschedules : (o : Kept) → rescheduled S (retimed u bs o) ≡ recorded_at u bs (rescheduled S o)
  unfolding rescheduled
  reschedules o =
      ap (λ r. cond (may_dispatch_in o) r (record { events = []; state = retimed u bs o }))
      (chooses (contender o) (highest (suc (top_priority S)) o.queues) o)
      ∙ either_recorded (may_dispatch_in o) _ _

  ends_tick : (o : Kept) (over : Bool)
      → cond over (record { events = []; state = retimed u bs o }) (rescheduled S (retimed u bs o))
      ≡ recorded_at u bs (cond over (record { events = []; state = o }) (rescheduled S o))
  ends_tick o true = refl
  ends_tick o false = reschedules o

  pub last_phase : (o : Kept) → last_phase_in S (retimed u bs o) ≡ recorded_at u bs (last_phase_in S o)
  last_phase o = ends_tick o o.over
