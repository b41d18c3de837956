-- The words of tasks and routines: what is kept beside them, words of resources too, neither reads nor changes them.
use Rattle.std.proofs.Common.{◌≡◌, ℕ, suc, Bool, true, false, cond, nat_le, [], ◌∷◌, refl, ◌∙◌, ap, ap₂}
use Rattle.std.specs.Prelude.{Option, Some, None, slice_index, bit_or}
use Rattle.osek_base.specs.declared.instr.Service.{Service}
use Rattle.osek_base.specs.Types.{ServiceCall}
use Rattle.osek_base.specs.declared.instr.Control.{Control}
use Rattle.osek_base.specs.declared.status.Status.{Status}
use Rattle.osek_base.specs.declared.trace_event.Results.{Results}
use Rattle.osek_base.specs.System.{System}
use Rattle.osek_base.specs.Ceiling.{top_priority}
use Rattle.osek_base.specs.Instruction.{Context}
use Rattle.osek_base.specs.State.{Words, interrupts_off}
use Rattle.osek_base.specs.Service.{first_refusal, is_met, meets}
use Rattle.osek_base.specs.Tick.{routine_choice}
use Rattle.law_kept.specs.Kept.{Kept, Slot}
use Rattle.ready_queues.specs.QueueMoves.{highest}
use Rattle.law_kept.specs.Moves.{KeptRecorded, activated_in, released_in, slot_changed, contender, dynamic_in, chosen, may_dispatch_in, rescheduled}
use Rattle.law_kept.specs.KeptService.{KeptCaller, ByTask, ByRoutine, ByNobody, KeptReply, bare, with_mask, with_caller_in, caller_ended_in, slot_given_up, slot_gets, slot_releases, slot_waiting, slot_moved, events_cleared_in, event_awaited_in, is_outranked_in, refusals_in, results_in, effect_in, reply_in, unasked_in, service_in}
use Rattle.law_kept.specs.KeptTick.{controlled_in, with_context_in, routine_started_in, start_phase_in}

-- the same with other words
abbrev pub with_words : Words → Kept → Kept
with_words w o = record o { words = w }

abbrev pub reply_with : Words → KeptReply → KeptReply
reply_with w r = record r { state = with_words w r.state }

abbrev pub recorded_with : Words → KeptRecorded → KeptRecorded
recorded_with w r = record r { state = with_words w r.state }

either : (w : Words) (b : Bool) (x y : Kept) → cond b (with_words w x) (with_words w y) ≡ with_words w (cond b x y)
either w true x y = refl
either w false x y = refl

module _ (S : System) (w : Words) where
  -- ---- services

  refusals_words : (d : KeptCaller) (o : Kept) (call : ServiceCall) → refusals_in S d (with_words w o) call ≡ refusals_in S d o call
  refusals_words (ByTask u) o (Service.ActivateTask None) = refl
  refusals_words d o call = refl

  results_words : (o : Kept) (call : ServiceCall) → results_in S (with_words w o) call ≡ results_in S o call
  results_words o (Service.GetTaskState None) = refl
  results_words o call = refl

  ended_words : (d : KeptCaller) (o : Kept) → caller_ended_in d (with_words w o) ≡ with_words w (caller_ended_in d o)
  ended_words (ByTask t) o = refl
  ended_words ByRoutine o = refl
  ended_words ByNobody o = refl

  caller_words : (d : KeptCaller) (g : Slot → Slot) (o : Kept) → with_caller_in d g (with_words w o) ≡ with_words w (with_caller_in d g o)
  caller_words (ByTask t) g o = refl
  caller_words ByRoutine g o = refl
  caller_words ByNobody g o = refl

  scheduled_words : (d : KeptCaller) (o : Kept) (b : Bool)
      → cond b (with_caller_in d slot_given_up (with_words w o)) (with_words w o) ≡ with_words w (cond b (with_caller_in d slot_given_up o) o)
  scheduled_words d o true = caller_words d slot_given_up o
  scheduled_words d o false = refl

  outranked_words : (d : KeptCaller) (o : Kept) → is_outranked_in S (with_words w o) d ≡ is_outranked_in S o d
  outranked_words (ByTask t) o = refl
  outranked_words ByRoutine o = refl
  outranked_words ByNobody o = refl

  cleared_words : (d : KeptCaller) (m : ℕ) (o : Kept) → events_cleared_in d m (with_words w o) ≡ with_words w (events_cleared_in d m o)
  cleared_words (ByTask t) m o = refl
  cleared_words ByRoutine m o = refl
  cleared_words ByNobody m o = refl

  awaited_words : (d : KeptCaller) (m : ℕ) (o : Kept) → event_awaited_in d m (with_words w o) ≡ with_words w (event_awaited_in d m o)
  awaited_words (ByTask t) m o = either w (meets m (slice_index o.masks t)) o (slot_changed t (slot_waiting m) o)
  awaited_words ByRoutine m o = refl
  awaited_words ByNobody m o = refl

  set_words : (t set : ℕ) (o : Kept)
      → cond (is_met set (o.slots t).waits_for) (released_in S t (with_mask t set (with_words w o))) (with_mask t set (with_words w o))
      ≡ with_words w (cond (is_met set (o.slots t).waits_for) (released_in S t (with_mask t set o)) (with_mask t set o))
  set_words t set o = either w (is_met set (o.slots t).waits_for) (released_in S t (with_mask t set o)) (with_mask t set o)

  effect_words : (d : KeptCaller) (o : Kept) (call : ServiceCall) → effect_in S d (with_words w o) call ≡ with_words w (effect_in S d o call)
  effect_words d o (Service.ActivateTask None) = refl
  effect_words d o (Service.ActivateTask (Some t)) = refl
  effect_words d o Service.TerminateTask = ended_words d o
  effect_words d o (Service.ChainTask None) = refl
  effect_words d o (Service.ChainTask (Some t)) = ap (activated_in S t) (ended_words d o)
  effect_words d o Service.Schedule =
      ap (λ b. cond b (with_caller_in d slot_given_up (with_words w o)) (with_words w o)) (outranked_words d o)
      ∙ scheduled_words d o (is_outranked_in S o d)
  effect_words d o (Service.GetResource None) = refl
  effect_words d o (Service.GetResource (Some r)) = caller_words d (slot_gets r) o
  effect_words d o (Service.ReleaseResource None) = refl
  effect_words d o (Service.ReleaseResource (Some r)) = caller_words d slot_releases o
  effect_words d o (Service.LoadShared r n) = refl
  effect_words d o (Service.StoreShared None n v) = refl
  effect_words d o (Service.StoreShared (Some r) n v) = refl
  effect_words d o (Service.SetEvent None m) = refl
  effect_words d o (Service.SetEvent (Some t) m) = set_words t (bit_or (slice_index o.masks t) m) o
  effect_words d o (Service.ClearEvent m) = cleared_words d m o
  effect_words d o (Service.WaitEvent m) = awaited_words d m o
  effect_words d o (Service.SetRelAlarm None x y) = refl
  effect_words d o (Service.SetRelAlarm (Some a) x y) = refl
  effect_words d o (Service.SetAbsAlarm None x y) = refl
  effect_words d o (Service.SetAbsAlarm (Some a) x y) = refl
  effect_words d o (Service.CancelAlarm None) = refl
  effect_words d o (Service.CancelAlarm (Some a)) = refl
  effect_words d o (Service.GetAlarm None) = refl
  effect_words d o (Service.GetAlarm (Some a)) = refl
  effect_words d o (Service.GetAlarmBase None) = refl
  effect_words d o (Service.GetAlarmBase (Some a)) = refl
  effect_words d o call = refl

  reply_words : (d : KeptCaller) (o : Kept) (call : ServiceCall) (refusal : Option Status)
      → reply_in S d (with_words w o) call refusal ≡ reply_with w (reply_in S d o call refusal)
  reply_words d o call None =
      ap₂ (λ (found : Results) (x : Kept). record { status = Status.Ok; results = found; state = x }) (results_words o call) (effect_words d o call)
  reply_words d o call (Some refusal) = refl

  pub unasked_words : (d : KeptCaller) (o : Kept) (call : ServiceCall) → unasked_in S d (with_words w o) call ≡ reply_with w (unasked_in S d o call)
  unfolding unasked_in
  unasked_words d o call =
      ap (λ rs. reply_in S d (with_words w o) call (first_refusal rs)) (refusals_words d o call)
      ∙ reply_words d o call (first_refusal (refusals_in S d o call))

  pub control_words : (o : Kept) (control : Control ℕ) → controlled_in control (with_words w o) ≡ with_words w (controlled_in control o)
  control_words o Control.DisableAllInterrupts = refl
  control_words o control = refl

  pub context_words : (d : KeptCaller) (x : Context) (o : Kept) → with_context_in d x (with_words w o) ≡ with_words w (with_context_in d x o)
  context_words (ByTask t) x o = either w o.gone o (slot_changed t (slot_moved x) o)
  context_words ByRoutine x o = refl
  context_words ByNobody x o = refl

  -- ---- phases

  start_words : (o : Kept) (b : Bool) (i : Option ℕ)
      → cond b (routine_started_in i (with_words w o)) (with_words w o) ≡ with_words w (cond b (routine_started_in i o) o)
  start_words o true None = refl
  start_words o true (Some i) = refl
  start_words o false i = refl

  pub start_phase_words : (o : Kept) → start_phase_in S (with_words w o) ≡ with_words w (start_phase_in S o)
  unfolding start_phase_in
  start_phase_words o = start_words o (may_dispatch_in o) (routine_choice S (bare o))

  either_recorded : (b : Bool) (x y : KeptRecorded) → cond b (recorded_with w x) (recorded_with w y) ≡ recorded_with w (cond b x y)
  either_recorded true x y = refl
  either_recorded false x y = refl

  chosen_words : (running level : Option ℕ) (o : Kept) → chosen S running level (with_words w o) ≡ recorded_with w (chosen S running level o)
  chosen_words None None o = refl
  chosen_words None (Some l) o = refl
  chosen_words (Some t) None o = refl
  chosen_words (Some t) (Some l) o = either_recorded (nat_le l (dynamic_in S t (o.slots t))) _ _

  pub rescheduled_words : (o : Kept) → rescheduled S (with_words w o) ≡ recorded_with w (rescheduled S o)
  unfolding rescheduled
  rescheduled_words o =
      ap (λ r. cond (may_dispatch_in o) r (record { events = []; state = with_words w o })) (chosen_words (contender o) (highest (suc (top_priority S)) o.queues) o)
      ∙ either_recorded (may_dispatch_in o) _ _

  pub service_words : (d : KeptCaller) (o : Kept) (call : ServiceCall) → service_in S d (with_words w o) call ≡ reply_with w (service_in S d o call)
  unfolding service_in
  service_words d o call =
      ap (λ rs. reply_in S d (with_words w o) call (first_refusal ((interrupts_off (bare o), Status.SysDisabled) ∷ rs))) (refusals_words d o call)
      ∙ reply_words d o call (first_refusal ((interrupts_off (bare o), Status.SysDisabled) ∷ refusals_in S d o call))
