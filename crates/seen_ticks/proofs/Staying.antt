-- What stays in a part of a tick: the flags of pending routines from its instruction on, and who holds each resource up to it.
use Rattle.std.proofs.Common.{◌≡◌, ℕ, suc, Bool, true, false, cond, List, [], ◌∷◌, ◌++◌, refl, sym, ◌∙◌, ap}
use Rattle.std.specs.Prelude.{Option, Some, None, ◌==◌, nat_le, length, map, slice_index, bit_or}
use Rattle.std.specs.List.{find}
use Rattle.std.proofs.Math.Path.{fun_ext}
use Rattle.osek_base.specs.declared.arrivals.Arrival.{Arrival}
use Rattle.osek_base.specs.declared.ids.Owner.{Owner}
use Rattle.osek_base.specs.declared.ids.ResId.{ResId}
use Rattle.osek_base.specs.declared.instr.Control.{Control}
use Rattle.osek_base.specs.declared.instr.Instr.{Instr}
use Rattle.osek_base.specs.declared.instr.Service.{Service}
use Rattle.osek_base.specs.declared.status.Status.{Status}
use Rattle.osek_base.specs.declared.task.Action.{Action}
use Rattle.osek_base.specs.Alarm.{due_alarms, alarms_advanced}
use Rattle.osek_base.specs.Instruction.{Context}
use Rattle.osek_base.specs.Lists.{below}
use Rattle.osek_base.specs.Proper.{IsProper}
use Rattle.osek_base.specs.Reschedule.{reschedule}
use Rattle.osek_base.specs.Separable.{first_of_list}
use Rattle.osek_base.specs.Service.{Caller, JobCalls, RoutineCalls, NobodyCalls, controlled, first_refusal, is_met, service}
use Rattle.osek_base.specs.State.{Job, State, jobs_of}
use Rattle.osek_base.specs.System.{System, alarm}
use Rattle.osek_base.specs.Tick.{action_call, before_execution, caller_executes, execute_phase, executed, executor, routine_choice, tick}
use Rattle.osek_base.specs.Trace.{arriving, run}
use Rattle.law_runs.proofs.Foremost.{equal}
use Rattle.ready_queues.specs.QueueMoves.{changed_at, first, highest, put_oldest}
use Rattle.law_kept.specs.Kept.{Kept, Slot, kept, slot_of}
use Rattle.law_kept.specs.KeptService.{ByNobody, bare, holds_in, refusals_in, reply_in, unasked_in, with_mask}
use Rattle.law_kept.specs.KeptTick.{alarm_acts_in, alarm_phase_in, alarms_act_in, arrival_phase_in, before_execution_in, routine_started_in, start_phase_in}
use Rattle.law_kept.specs.Moves.{KeptRecorded, chosen, contender, dispatched, dynamic_in, may_dispatch_in, one_more, released_in, rescheduled, slot_entered, slot_woken, stays}
use Rattle.law_kept.proofs.InRuns.{before_alike}
use Rattle.osek_base.specs.Ceiling.{top_priority}
use Rattle.law_blockers.specs.Steps.{step_at}
use Rattle.seen_ticks.specs.Shown.{holder, is_held_by, oldest_job}
use Rattle.seen_ticks.specs.Observed.{holders_seen}

-- ---- pending routines

pending_controlled : (control : Control ℕ) (s : State) → (controlled control s).pending ≡ s.pending
pending_controlled Control.DisableAllInterrupts s = refl
pending_controlled _ s = refl

pending_executed : (S : System) (who : Owner) (c : Caller) (x : Context) (what : Instr) (s : State) → (executed S who c x what s).state.pending ≡ s.pending
unfolding service
pending_executed S who c x (Instr.Plain p) s = refl
pending_executed S who c x (Instr.Service call) s = refl
pending_executed S who c x (Instr.Control control) s = pending_controlled control s

pending_caller : (S : System) (c : Caller) (s : State) → (caller_executes S c s).state.pending ≡ s.pending
pending_caller S (JobCalls j) s = pending_executed S _ (JobCalls j) _ _ s
pending_caller S (RoutineCalls a) s = pending_executed S _ (RoutineCalls a) _ _ s
pending_caller S NobodyCalls s = refl

pending_execute : (S : System) (s : State) → (execute_phase S s).state.pending ≡ s.pending
unfolding execute_phase
pending_execute S s = pending_caller S (executor s) s

pending_reschedule : (S : System) (s : State) → (reschedule S s).state.pending ≡ s.pending
unfolding reschedule
pending_reschedule S s = refl

pending_last : (S : System) (over : Bool) (s : State)
    → (cond over (record { events = []; state = s }) (reschedule S s)).state.pending ≡ s.pending
pending_last S true s = refl
pending_last S false s = pending_reschedule S s

pub pending_tick : (S : System) (arrived : List ℕ) (s : State) → (tick S arrived s).after.pending ≡ (tick S arrived s).executing.pending
unfolding tick
pending_tick S arrived s =
    let done : State = (execute_phase S (before_execution S arrived s).state).state in
    pending_last S done.over done ∙ pending_execute S (before_execution S arrived s).state

-- behind a tick the same routines are pending as when its instruction is executed
pub pending_stays : (S : System) (mode : ℕ) (arrivals : List Arrival) (n : ℕ)
    → (step_at S mode arrivals n).after.pending ≡ (step_at S mode arrivals n).executing.pending
pending_stays S mode arrivals n =
    pending_tick S (arriving arrivals (run S mode arrivals n).state.tick) (run S mode arrivals n).state

-- ---- holders

-- each task's job holds the same
abbrev pub HoldSame : Kept → Kept → Type 0
HoldSame o e = (t : ℕ) → (e.slots t).held ≡ (o.slots t).held

pub then_same : (o e f : Kept) → HoldSame o e → HoldSame e f → HoldSame o f
then_same o e f one two t = two t ∙ one t

pub changed_same : (slots : ℕ → Slot) (t : ℕ) (a : Slot) → a.held ≡ (slots t).held
    → (u : ℕ) → (changed_at slots t a u).held ≡ (slots u).held
changed_same slots t a same u = go (t == u) refl
  where
    go : (b : Bool) → (t == u) ≡ b → (cond b a (slots u)).held ≡ (slots u).held
    go true e = same ∙ ap (λ v. (slots v).held) (equal t u e)
    go false e = refl

module _ (S : System) (o : Kept) where
  activate_same : (t : ℕ) → HoldSame o (unasked_in S ByNobody o (Service.ActivateTask (Some t))).state
  unfolding unasked_in
  activate_same t = go (first_refusal (refusals_in S ByNobody o (Service.ActivateTask (Some t))))
    where
      go : (refusal : Option Status) → HoldSame o (reply_in S ByNobody o (Service.ActivateTask (Some t)) refusal).state
      go None = changed_same o.slots t (one_more (o.slots t)) refl
      go (Some refusal) = λ u. refl

  pub set_same : (t m : ℕ) (b : Bool) → HoldSame o (cond b (released_in S t (with_mask t m o)) (with_mask t m o))
  set_same t m true = changed_same o.slots t (slot_woken (o.slots t)) refl
  set_same t m false = λ u. refl

  set_event_same : (t m : ℕ) → HoldSame o (unasked_in S ByNobody o (Service.SetEvent (Some t) m)).state
  unfolding unasked_in
  set_event_same t m = go (first_refusal (refusals_in S ByNobody o (Service.SetEvent (Some t) m)))
    where
      go : (refusal : Option Status) → HoldSame o (reply_in S ByNobody o (Service.SetEvent (Some t) m) refusal).state
      go None =
          set_same t (bit_or (slice_index o.masks t) m)
          (is_met (bit_or (slice_index o.masks t) m) (o.slots t).waits_for)
      go (Some refusal) = λ u. refl

  action_same : (act : Action) → HoldSame o (unasked_in S ByNobody o (action_call act)).state
  action_same (Action.ActivateTask t) = activate_same t
  action_same (Action.SetEvent t m) = set_event_same t m

  stays_same : (t : ℕ) → HoldSame o (stays S t o).state
  stays_same t = changed_same o.slots t (slot_entered S t (o.slots t)) refl

  dispatched_same : (l : ℕ) (q : ℕ → List ℕ) → HoldSame o (dispatched S l q o).state
  dispatched_same l q = changed_same o.slots (first (q l)) (slot_entered S (first (q l)) (o.slots (first (q l)))) refl

  chosen_same : (c l : Option ℕ) → HoldSame o (chosen S c l o).state
  chosen_same None None = λ u. refl
  chosen_same None (Some l) = dispatched_same l o.queues
  chosen_same (Some t) None = stays_same t
  chosen_same (Some t) (Some l) = go (nat_le l (dynamic_in S t (o.slots t)))
    where
      go : (b : Bool) → HoldSame o (cond b (stays S t o) (dispatched S l (put_oldest o.queues (dynamic_in S t (o.slots t)) t) o)).state
      go true = stays_same t
      go false = dispatched_same l (put_oldest o.queues (dynamic_in S t (o.slots t)) t)

  pub rescheduled_same : HoldSame o (rescheduled S o).state
  unfolding rescheduled
  rescheduled_same = go (may_dispatch_in o)
    where
      go : (b : Bool)
          → HoldSame o (cond b (chosen S (contender o) (highest (suc (top_priority S)) o.queues) o) (record { events = []; state = o })).state
      go true = chosen_same (contender o) (highest (suc (top_priority S)) o.queues)
      go false = λ u. refl

  start_same : HoldSame o (start_phase_in S o)
  unfolding start_phase_in
  start_same = go (may_dispatch_in o) (routine_choice S (bare o))
    where
      go : (b : Bool) (i : Option ℕ) → HoldSame o (cond b (routine_started_in i o) o)
      go true None = λ u. refl
      go true (Some i) = λ u. refl
      go false i = λ u. refl

alarms_same : (S : System) (due : List ℕ) (o : Kept) → HoldSame o (alarms_act_in S due o).state
alarms_same S [] o = λ u. refl
alarms_same S (a ∷ due) o =
    let acted : Kept = (alarm_acts_in S a o).state in
    then_same o acted (alarms_act_in S due acted).state (action_same S o (alarm S a).action) (alarms_same S due acted)

alarm_phase_same : (S : System) (o : Kept) → HoldSame o (alarm_phase_in S o).state
unfolding alarm_phase_in
alarm_phase_same S o = alarms_same S (due_alarms S (bare o)) (record o { alarms = alarms_advanced S (bare o) })

pub before_same : (S : System) (arrived : List ℕ) (o : Kept) → HoldSame o (before_execution_in S arrived o).state
before_same S arrived o =
    let acted : Kept = (alarm_phase_in S o).state in
    let ready : Kept = (rescheduled S (arrival_phase_in arrived acted)).state in
    then_same o acted (start_phase_in S ready) (alarm_phase_same S o)
    (then_same acted ready (start_phase_in S ready) (rescheduled_same S (arrival_phase_in arrived acted)) (start_same S ready))

pub holding : (r : ResId) (js : List Job) → holds_in r (slot_of js) ≡ is_held_by r (first_of_list js)
holding r [] = refl
holding r (j ∷ js) = refl

module _ (S : System) (proper : IsProper S) (mode : ℕ) (arrivals : List Arrival) (n : ℕ) where
  abbrev before : State
  before = (run S mode arrivals n).state

  abbrev now : ℕ
  now = before.tick

  executing_is : (step_at S mode arrivals n).executing ≡ (before_execution S (arriving arrivals now) before).state
  unfolding tick
  executing_is = refl

  held_same : (r : ResId) (t : ℕ) → is_held_by r (oldest_job before t) ≡ is_held_by r (oldest_job (step_at S mode arrivals n).executing t)
  held_same r t =
      let at : State = (before_execution S (arriving arrivals now) before).state in
      sym (holding r (jobs_of t before.jobs))
      ∙ ap (λ held. holds_in r (record (slot_of (jobs_of t before.jobs)) { held = held }))
      (sym (before_same S (arriving arrivals now) (kept S before) t)
      ∙ sym (ap (λ (k : KeptRecorded). (k.state.slots t).held) (before_alike S mode arrivals n (arriving arrivals now) proper)))
      ∙ holding r (jobs_of t at.jobs)
      ∙ ap (λ (s : State). is_held_by r (oldest_job s t)) (sym executing_is)

  holder_same : (r : ResId) → holder S before r ≡ holder S (step_at S mode arrivals n).executing r
  holder_same r = ap (λ p. find p (below (length S.tasks))) (fun_ext (held_same r))

  -- up to the instruction of a tick the same jobs hold the same resources
  pub holders_stay : holders_seen S before ≡ holders_seen S (step_at S mode arrivals n).executing
  holders_stay =
      ap (λ (h : ResId → Option ℕ). map (λ r. h (ResId.Declared r)) (below (length S.resources))
      ++ cond S.use_res_scheduler (h ResId.Scheduler ∷ []) []) (fun_ext holder_same)
