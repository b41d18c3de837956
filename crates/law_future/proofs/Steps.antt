-- All steps but the instruction itself: of a cleaned state they record the same, and leave what they left, cleaned.
use Rattle.std.proofs.Math.Path.{fun_ext}
use Rattle.std.proofs.Common.{◌≡◌, ℕ, suc, Bool, true, false, cond, not, ◌&&◌, ◌||◌, nat_le, nat_lt, List, [], ◌∷◌, ◌++◌, refl, sym, ◌∙◌, ap, ap₂}
use Rattle.std.specs.Prelude.{is_some, Option, Some, None, slice_index, slice_set, bit_or, ◌==◌}
use Rattle.osek_base.specs.declared.ids.Owner.{Owner}
use Rattle.osek_base.specs.declared.instr.Service.{Service}
use Rattle.osek_base.specs.Types.{ServiceCall}
use Rattle.osek_base.specs.declared.status.Status.{Status}
use Rattle.osek_base.specs.declared.trace_event.Results.{Results}
use Rattle.osek_base.specs.System.{System, priority_of, is_extended, alarm}
use Rattle.osek_base.specs.Ceiling.{top_priority}
use Rattle.osek_base.specs.Instruction.{Context}
use Rattle.osek_base.specs.State.{Active, Words, fresh_context, interrupts_off}
use Rattle.osek_base.specs.Alarm.{due_alarms, alarms_advanced}
use Rattle.osek_base.specs.Service.{first_refusal, is_met, meets}
use Rattle.osek_base.specs.declared.task.Action.{Action}
use Rattle.osek_base.specs.Tick.{action_call, routine_choice}
use Rattle.std.specs.Option.{option_map}
use Rattle.law_runs.proofs.Lists.{clash}
use Rattle.law_runs.proofs.Foremost.{equal}
use Rattle.ready_queues.specs.QueueMoves.{changed_at, put_newest, put_oldest, first, without_first_at_level, highest}
use Rattle.law_kept.specs.Kept.{Kept, Slot, unbegun}
use Rattle.law_kept.specs.Moves.{KeptRecorded, one_more, activated_in, ended_in, released_in, slot_changed, slot_woken, slot_entered, contender, contender_of, dynamic_in, chosen, dispatched, entered_as, stays, may_dispatch_in, rescheduled}
use Rattle.law_kept.specs.KeptService.{KeptCaller, ByTask, ByRoutine, ByNobody, KeptReply, bare, caller_by, caller_in, with_mask, with_caller_in, caller_ended_in, slot_given_up, slot_gets, slot_releases, slot_waiting, events_cleared_in, event_awaited_in, is_outranked_in, refusals_in, results_in, effect_in, reply_in, unasked_in, service_in}
use Rattle.law_kept.specs.KeptTick.{and_then_in, silent_in, alarm_reply_in, alarm_acts_in, alarms_act_in, alarm_phase_in, arrival_phase_in, routine_started_in, start_phase_in, before_execution_in, last_phase_in}

-- contexts, words and shared words are changed, and nothing else
abbrev pub mapped_slots : (Owner → Context → Context) → (ℕ → Slot) → ℕ → Slot
mapped_slots g slots t = record (slots t) { context = g (Owner.Task t) (slots t).context }

abbrev pub mapped_routine : (Owner → Context → Context) → Active → Active
mapped_routine g a = record a { context = g (Owner.Routine a.routine) a.context }

abbrev pub mapped : (Owner → Context → Context) → (Words → Words) → (List (List ℕ) → List (List ℕ)) → Kept → Kept
mapped g v h o =
    record o {
      slots = mapped_slots g o.slots;
      active = option_map (mapped_routine g) o.active;
      words = v o.words;
      shared = h o.shared;
    }

abbrev pub mapped_reply : (Owner → Context → Context) → (Words → Words) → (List (List ℕ) → List (List ℕ)) → KeptReply → KeptReply
mapped_reply g v h r = record r { state = mapped g v h r.state }

abbrev pub mapped_recorded : (Owner → Context → Context) → (Words → Words) → (List (List ℕ) → List (List ℕ)) → KeptRecorded → KeptRecorded
mapped_recorded g v h r = record r { state = mapped g v h r.state }

abbrev pub mapped_slot : (Owner → Context → Context) → ℕ → Slot → Slot
mapped_slot cx t a = record a { context = cx (Owner.Task t) a.context }

module _ (cx : Owner → Context → Context) where
  pub unbegun_mapped : ((who : Owner) → cx who fresh_context ≡ fresh_context) → (t n : ℕ) → mapped_slot cx t (unbegun n) ≡ unbegun n
  unbegun_mapped fresh t n = ap (λ x. record (unbegun n) { context = x }) (fresh (Owner.Task t))

  pub changed_mapped : (slots : ℕ → Slot) (t : ℕ) (a : Slot)
      → changed_at (mapped_slots cx slots) t (mapped_slot cx t a) ≡ mapped_slots cx (changed_at slots t a)
  changed_mapped slots t a = fun_ext (λ u. go u (t == u) refl)
    where
      go : (u : ℕ) (b : Bool) → (t == u) ≡ b
          → cond b (mapped_slot cx t a) (mapped_slots cx slots u) ≡ mapped_slot cx u (cond b a (slots u))
      go u true e = ap (λ k. mapped_slot cx k a) (equal t u e)
      go u false e = refl

  pub is_some_mapped : (active : Option Active) → is_some (option_map (mapped_routine cx) active) ≡ is_some active
  is_some_mapped None = refl
  is_some_mapped (Some a) = refl

-- neither a word of a resource is read nor written
abbrev pub leaves_shared : ServiceCall → Bool
leaves_shared (Service.LoadShared r i) = false
leaves_shared (Service.StoreShared r i v) = false
leaves_shared call = true

module _ (S : System) (cx : Owner → Context → Context) (wd : Words → Words) (sh : List (List ℕ) → List (List ℕ)) (fresh : (who : Owner) → cx who fresh_context ≡ fresh_context) where
  either : (b : Bool) (x y : Kept) → cond b (mapped cx wd sh x) (mapped cx wd sh y) ≡ mapped cx wd sh (cond b x y)
  either true x y = refl
  either false x y = refl

  -- ---- slots

  abbrev with_slots : (ℕ → Slot) → Kept → Kept
  with_slots slots o = record o { slots = slots }

  -- a slot is changed, and its context stays
  pub slot_clean : (t : ℕ) (g : Slot → Slot) (o : Kept)
      → ((a : Slot) → g (mapped_slot cx t a) ≡ mapped_slot cx t (g a))
      → slot_changed t g (mapped cx wd sh o) ≡ mapped cx wd sh (slot_changed t g o)
  slot_clean t g o same =
      ap (λ a. with_slots (changed_at (mapped_slots cx o.slots) t a) (mapped cx wd sh o)) (same (o.slots t))
      ∙ ap (λ slots. with_slots slots (mapped cx wd sh o)) (changed_mapped cx o.slots t (g (o.slots t)))

  pub activated_clean : (t : ℕ) (o : Kept) → activated_in S t (mapped cx wd sh o) ≡ mapped cx wd sh (activated_in S t o)
  activated_clean t o =
      ap (λ slots. record (mapped cx wd sh o) {
        queues = put_newest o.queues (priority_of S t) t;
        slots = slots;
        masks = cond (is_extended S t && ((o.slots t).count == 0)) (slice_set o.masks t 0) o.masks;
      }) (changed_mapped cx o.slots t (one_more (o.slots t)))

  pub released_clean : (t : ℕ) (o : Kept) → released_in S t (mapped cx wd sh o) ≡ mapped cx wd sh (released_in S t o)
  released_clean t o =
      ap (λ slots. record (mapped cx wd sh o) { queues = put_newest o.queues (priority_of S t) t; slots = slots })
      (changed_mapped cx o.slots t (slot_woken (o.slots t)))

  pub ended_clean : (t : ℕ) (o : Kept) → ended_in t (mapped cx wd sh o) ≡ mapped cx wd sh (ended_in t o)
  ended_clean t o =
      ap (λ (z : Kept). record z { gone = true })
      (ap (λ a. with_slots (changed_at (mapped_slots cx o.slots) t a) (mapped cx wd sh o)) (sym (unbegun_mapped cx fresh t _))
      ∙ ap (λ slots. with_slots slots (mapped cx wd sh o)) (changed_mapped cx o.slots t (unbegun _)))

  -- ---- services

  pub refusals_clean : (d : KeptCaller) (o : Kept) (call : ServiceCall)
      → refusals_in S d (mapped cx wd sh o) call ≡ refusals_in S d o call
  refusals_clean (ByTask u) o (Service.ActivateTask None) = refl
  refusals_clean d o call = refl

  results_clean : (o : Kept) (call : ServiceCall) → leaves_shared call ≡ true
      → results_in S (mapped cx wd sh o) call ≡ results_in S o call
  results_clean o (Service.LoadShared r i) h = clash (sym h)
  results_clean o (Service.GetTaskState None) h = refl
  results_clean o call h = refl

  caller_clean : (d : KeptCaller) (g : Slot → Slot) (o : Kept)
      → ((t : ℕ) (a : Slot) → g (mapped_slot cx t a) ≡ mapped_slot cx t (g a))
      → with_caller_in d g (mapped cx wd sh o) ≡ mapped cx wd sh (with_caller_in d g o)
  caller_clean (ByTask t) g o same = slot_clean t g o (same t)
  caller_clean ByRoutine g o same = refl
  caller_clean ByNobody g o same = refl

  caller_ended_clean : (d : KeptCaller) (o : Kept) → caller_ended_in d (mapped cx wd sh o) ≡ mapped cx wd sh (caller_ended_in d o)
  caller_ended_clean (ByTask t) o = ended_clean t o
  caller_ended_clean ByRoutine o = refl
  caller_ended_clean ByNobody o = refl

  outranked_clean : (d : KeptCaller) (o : Kept) → is_outranked_in S (mapped cx wd sh o) d ≡ is_outranked_in S o d
  outranked_clean (ByTask t) o = refl
  outranked_clean ByRoutine o = refl
  outranked_clean ByNobody o = refl

  scheduled_clean : (d : KeptCaller) (o : Kept) (b : Bool)
      → cond b (with_caller_in d slot_given_up (mapped cx wd sh o)) (mapped cx wd sh o)
      ≡ mapped cx wd sh (cond b (with_caller_in d slot_given_up o) o)
  scheduled_clean d o true = caller_clean d slot_given_up o (λ f a. refl)
  scheduled_clean d o false = refl

  cleared_clean : (d : KeptCaller) (m : ℕ) (o : Kept)
      → events_cleared_in d m (mapped cx wd sh o) ≡ mapped cx wd sh (events_cleared_in d m o)
  cleared_clean (ByTask t) m o = refl
  cleared_clean ByRoutine m o = refl
  cleared_clean ByNobody m o = refl

  awaited_clean : (d : KeptCaller) (m : ℕ) (o : Kept)
      → event_awaited_in d m (mapped cx wd sh o) ≡ mapped cx wd sh (event_awaited_in d m o)
  awaited_clean (ByTask t) m o =
      ap (cond (meets m (slice_index o.masks t)) (mapped cx wd sh o)) (slot_clean t (slot_waiting m) o (λ a. refl))
      ∙ either (meets m (slice_index o.masks t)) o (slot_changed t (slot_waiting m) o)
  awaited_clean ByRoutine m o = refl
  awaited_clean ByNobody m o = refl

  set_clean : (t set : ℕ) (o : Kept)
      → cond (is_met set (o.slots t).waits_for) (released_in S t (with_mask t set (mapped cx wd sh o))) (with_mask t set (mapped cx wd sh o))
      ≡ mapped cx wd sh (cond (is_met set (o.slots t).waits_for) (released_in S t (with_mask t set o)) (with_mask t set o))
  set_clean t set o =
      ap (λ (z : Kept). cond (is_met set (o.slots t).waits_for) z (with_mask t set (mapped cx wd sh o)))
      (released_clean t (with_mask t set o))
      ∙ either (is_met set (o.slots t).waits_for) (released_in S t (with_mask t set o)) (with_mask t set o)

  pub effect_clean : (d : KeptCaller) (o : Kept) (call : ServiceCall) → leaves_shared call ≡ true
      → effect_in S d (mapped cx wd sh o) call ≡ mapped cx wd sh (effect_in S d o call)
  effect_clean d o (Service.ActivateTask None) h = refl
  effect_clean d o (Service.ActivateTask (Some t)) h = activated_clean t o
  effect_clean d o Service.TerminateTask h = caller_ended_clean d o
  effect_clean d o (Service.ChainTask None) h = refl
  effect_clean d o (Service.ChainTask (Some t)) h =
      ap (activated_in S t) (caller_ended_clean d o) ∙ activated_clean t (caller_ended_in d o)
  effect_clean d o Service.Schedule h =
      ap (λ b. cond b (with_caller_in d slot_given_up (mapped cx wd sh o)) (mapped cx wd sh o)) (outranked_clean d o)
      ∙ scheduled_clean d o (is_outranked_in S o d)
  effect_clean d o (Service.GetResource None) h = refl
  effect_clean d o (Service.GetResource (Some r)) h = caller_clean d (slot_gets r) o (λ f a. refl)
  effect_clean d o (Service.ReleaseResource None) h = refl
  effect_clean d o (Service.ReleaseResource (Some r)) h = caller_clean d slot_releases o (λ f a. refl)
  effect_clean d o (Service.LoadShared r n) h = clash (sym h)
  effect_clean d o (Service.StoreShared r n v) h = clash (sym h)
  effect_clean d o (Service.SetEvent None m) h = refl
  effect_clean d o (Service.SetEvent (Some t) m) h = set_clean t (bit_or (slice_index o.masks t) m) o
  effect_clean d o (Service.ClearEvent m) h = cleared_clean d m o
  effect_clean d o (Service.WaitEvent m) h = awaited_clean d m o
  effect_clean d o (Service.SetRelAlarm None x y) h = refl
  effect_clean d o (Service.SetRelAlarm (Some a) x y) h = refl
  effect_clean d o (Service.SetAbsAlarm None x y) h = refl
  effect_clean d o (Service.SetAbsAlarm (Some a) x y) h = refl
  effect_clean d o (Service.CancelAlarm None) h = refl
  effect_clean d o (Service.CancelAlarm (Some a)) h = refl
  effect_clean d o (Service.GetAlarm None) h = refl
  effect_clean d o (Service.GetAlarm (Some a)) h = refl
  effect_clean d o (Service.GetAlarmBase None) h = refl
  effect_clean d o (Service.GetAlarmBase (Some a)) h = refl
  effect_clean d o call h = refl

  pub reply_clean : (d : KeptCaller) (o : Kept) (call : ServiceCall) → leaves_shared call ≡ true → (refusal : Option Status)
      → reply_in S d (mapped cx wd sh o) call refusal ≡ mapped_reply cx wd sh (reply_in S d o call refusal)
  reply_clean d o call h None =
      ap₂ (λ (found : Results) (x : Kept). record { status = Status.Ok; results = found; state = x })
      (results_clean o call h) (effect_clean d o call h)
  reply_clean d o call h (Some refusal) = refl

  pub unasked_clean : (d : KeptCaller) (o : Kept) (call : ServiceCall) → leaves_shared call ≡ true
      → unasked_in S d (mapped cx wd sh o) call ≡ mapped_reply cx wd sh (unasked_in S d o call)
  unfolding unasked_in
  unasked_clean d o call h =
      ap (λ rs. reply_in S d (mapped cx wd sh o) call (first_refusal rs)) (refusals_clean d o call)
      ∙ reply_clean d o call h (first_refusal (refusals_in S d o call))

  pub service_clean : (d : KeptCaller) (o : Kept) (call : ServiceCall) → leaves_shared call ≡ true
      → service_in S d (mapped cx wd sh o) call ≡ mapped_reply cx wd sh (service_in S d o call)
  unfolding service_in
  service_clean d o call h =
      ap (λ rs. reply_in S d (mapped cx wd sh o) call (first_refusal ((interrupts_off (bare o), Status.SysDisabled) ∷ rs))) (refusals_clean d o call)
      ∙ reply_clean d o call h (first_refusal ((interrupts_off (bare o), Status.SysDisabled) ∷ refusals_in S d o call))

  -- ---- reschedule

  may_clean : (o : Kept) → may_dispatch_in (mapped cx wd sh o) ≡ may_dispatch_in o
  may_clean o =
      ap (λ b. not b && not (o.disabled || nat_lt 0 o.suspended_all || nat_lt 0 o.suspended_os)) (is_some_mapped cx o.active)

  either_recorded : (b : Bool) (x y : KeptRecorded)
      → cond b (mapped_recorded cx wd sh x) (mapped_recorded cx wd sh y) ≡ mapped_recorded cx wd sh (cond b x y)
  either_recorded true x y = refl
  either_recorded false x y = refl

  stays_clean : (t : ℕ) (o : Kept) → stays S t (mapped cx wd sh o) ≡ mapped_recorded cx wd sh (stays S t o)
  stays_clean t o =
      ap (λ (z : Kept). record { events = []; state = z }) (slot_clean t (slot_entered S t) o (λ a. refl))

  entered_clean : (t l : ℕ) (q : ℕ → List ℕ) (o : Kept)
      → entered_as S t l q (mapped cx wd sh o) ≡ mapped cx wd sh (entered_as S t l q o)
  entered_clean t l q o =
      ap (λ slots. record (mapped cx wd sh o) {
        queues = without_first_at_level q l;
        slots = slots;
        running = Some t;
        gone = false;
      }) (changed_mapped cx o.slots t (slot_entered S t (o.slots t)))

  dispatched_clean : (l : ℕ) (q : ℕ → List ℕ) (o : Kept)
      → dispatched S l q (mapped cx wd sh o) ≡ mapped_recorded cx wd sh (dispatched S l q o)
  dispatched_clean l q o =
      ap (λ (z : Kept). record { events = (dispatched S l q o).events; state = z }) (entered_clean (first (q l)) l q o)

  contender_clean : (running : Option ℕ) (gone : Bool) (slots : ℕ → Slot)
      → contender_of running gone (mapped_slots cx slots) ≡ contender_of running gone slots
  contender_clean None gone slots = refl
  contender_clean (Some t) gone slots = refl

  chosen_clean : (running level : Option ℕ) (o : Kept)
      → chosen S running level (mapped cx wd sh o) ≡ mapped_recorded cx wd sh (chosen S running level o)
  chosen_clean None None o = refl
  chosen_clean None (Some l) o = dispatched_clean l o.queues o
  chosen_clean (Some t) None o = stays_clean t o
  chosen_clean (Some t) (Some l) o =
      ap₂ (cond (nat_le l (dynamic_in S t (o.slots t)))) (stays_clean t o)
      (dispatched_clean l (put_oldest o.queues (dynamic_in S t (o.slots t)) t) o)
      ∙ either_recorded (nat_le l (dynamic_in S t (o.slots t))) _ _

  pub rescheduled_clean : (o : Kept) → rescheduled S (mapped cx wd sh o) ≡ mapped_recorded cx wd sh (rescheduled S o)
  unfolding rescheduled
  rescheduled_clean o =
      ap₂ (λ b c. cond b (chosen S c (highest (suc (top_priority S)) o.queues) (mapped cx wd sh o)) (record { events = []; state = mapped cx wd sh o }))
      (may_clean o) (contender_clean o.running o.gone o.slots)
      ∙ ap (λ r. cond (may_dispatch_in o) r (record { events = []; state = mapped cx wd sh o }))
      (chosen_clean (contender o) (highest (suc (top_priority S)) o.queues) o)
      ∙ either_recorded (may_dispatch_in o) _ _

  -- ---- phases 1 to 4, and 6

  then_clean : (a b : KeptRecorded) (f : Kept → KeptRecorded) → a ≡ mapped_recorded cx wd sh b
      → f (mapped cx wd sh b.state) ≡ mapped_recorded cx wd sh (f b.state)
      → and_then_in a f ≡ mapped_recorded cx wd sh (and_then_in b f)
  then_clean a b f same after =
      ap (λ (r : KeptRecorded). and_then_in r f) same
      ∙ ap (λ (r : KeptRecorded). record { events = b.events ++ r.events; state = r.state }) after

  acts_clean : (a : ℕ) (o : Kept) → leaves_shared (action_call (alarm S a).action) ≡ true
      → alarm_acts_in S a (mapped cx wd sh o) ≡ mapped_recorded cx wd sh (alarm_acts_in S a o)
  acts_clean a o h = ap (alarm_reply_in S a) (unasked_clean ByNobody o (action_call (alarm S a).action) h)

  pub action_leaves : (action : Action) → leaves_shared (action_call action) ≡ true
  action_leaves (Action.ActivateTask t) = refl
  action_leaves (Action.SetEvent t m) = refl

  alarms_clean : (due : List ℕ) (o : Kept) → alarms_act_in S due (mapped cx wd sh o) ≡ mapped_recorded cx wd sh (alarms_act_in S due o)
  alarms_clean [] o = refl
  alarms_clean (a ∷ due) o =
      then_clean (alarm_acts_in S a (mapped cx wd sh o)) (alarm_acts_in S a o) (alarms_act_in S due)
      (acts_clean a o (action_leaves (alarm S a).action)) (alarms_clean due (alarm_acts_in S a o).state)

  alarm_phase_clean : (o : Kept) → alarm_phase_in S (mapped cx wd sh o) ≡ mapped_recorded cx wd sh (alarm_phase_in S o)
  unfolding alarm_phase_in
  alarm_phase_clean o = alarms_clean (due_alarms S (bare o)) (record o { alarms = alarms_advanced S (bare o) })

  started_clean : (i : Option ℕ) (o : Kept)
      → routine_started_in i (mapped cx wd sh o) ≡ mapped cx wd sh (routine_started_in i o)
  started_clean None o = refl
  started_clean (Some n) o =
      ap (λ x. record (mapped cx wd sh o) {
        active = Some (record { routine = n; context = x });
        pending = slice_set o.pending n false;
      }) (sym (fresh (Owner.Routine n)))

  start_phase_clean : (o : Kept) → start_phase_in S (mapped cx wd sh o) ≡ mapped cx wd sh (start_phase_in S o)
  unfolding start_phase_in
  start_phase_clean o =
      ap₂ (λ b z. cond b z (mapped cx wd sh o)) (may_clean o) (started_clean (routine_choice S (bare o)) o)
      ∙ either (may_dispatch_in o) (routine_started_in (routine_choice S (bare o)) o) o

  pub before_clean : (arrived : List ℕ) (o : Kept)
      → before_execution_in S arrived (mapped cx wd sh o) ≡ mapped_recorded cx wd sh (before_execution_in S arrived o)
  before_clean arrived o =
      ap (λ (r : KeptRecorded). record { events = r.events; state = start_phase_in S r.state })
      (then_clean (alarm_phase_in S (mapped cx wd sh o)) (alarm_phase_in S o) (λ a. rescheduled S (arrival_phase_in arrived a))
      (alarm_phase_clean o) (rescheduled_clean (arrival_phase_in arrived (alarm_phase_in S o).state)))
      ∙ ap (λ z. record { events = (and_then_in (alarm_phase_in S o) (λ a. rescheduled S (arrival_phase_in arrived a))).events; state = z })
      (start_phase_clean (and_then_in (alarm_phase_in S o) (λ a. rescheduled S (arrival_phase_in arrived a))).state)

  pub last_clean : (o : Kept) → last_phase_in S (mapped cx wd sh o) ≡ mapped_recorded cx wd sh (last_phase_in S o)
  last_clean o =
      ap (cond o.over (silent_in (mapped cx wd sh o))) (rescheduled_clean o)
      ∙ either_recorded o.over (silent_in o) (rescheduled S o)

  pub caller_in_clean : (o : Kept) → caller_in (mapped cx wd sh o) ≡ caller_in o
  caller_in_clean o = ap (λ b. caller_by b o.running o.gone) (is_some_mapped cx o.active)
