-- Behind an instruction the alarms that are set hold no more than before and what it sets.
use Rattle.std.proofs.Common.{ℕ, ◌≡◌, ◌≤◌, ◌+◌, List, [], ◌∷◌, refl, ◌∙◌, ap, arith}
use Rattle.std.specs.Prelude.{Option, Some, None, slice_index, bit_or}
use Rattle.osek_base.specs.declared.ids.Owner.{Owner}
use Rattle.osek_base.specs.declared.instr.Control.{Control}
use Rattle.osek_base.specs.declared.instr.Instr.{Instr}
use Rattle.osek_base.specs.declared.instr.Service.{Service}
use Rattle.osek_base.specs.declared.status.Status.{Status}
use Rattle.osek_base.specs.Activation.{activated, released}
use Rattle.osek_base.specs.Instruction.{Context}
use Rattle.osek_base.specs.Service.{Caller, JobCalls, NobodyCalls, RoutineCalls, caller_ended, effect, event_awaited, event_set, events_cleared, first_refusal, gets, given_up, is_met, is_outranked, meets, refusals, released_by, releases, reply_to, service, waiting_for, with_caller, with_events}
use Rattle.osek_base.specs.State.{Job, JobId, State, interrupts_off, jobs_of}
use Rattle.osek_base.specs.System.{System}
use Rattle.osek_base.specs.Tick.{at_values, executed}
use Rattle.osek_base.specs.Types.{ServiceCall}
use Rattle.law_alarms.specs.Setting.{call_in}
use Rattle.law_runs.proofs.Lists.{cond_both}
use Rattle.law_costs.specs.Left.{Weights, left_of_alarms}
use Rattle.law_costs.specs.Routines.{set_by, set_of, set_where}
use Rattle.law_costs.proofs.Alarms.{one_off, one_set}

-- ---- what doesn't change alarms

pub activated_alarms : (S : System) (t : ℕ) (s : State) → (activated S t s).alarms ≡ s.alarms
unfolding activated
activated_alarms S t s = refl

released_alarms : (n : JobId) (s : State) → (released n s).alarms ≡ s.alarms
unfolding released
released_alarms n s = refl

module _ (s : State) where
  abbrev pub Stay : State → Type 0
  Stay e = e.alarms ≡ s.alarms

  met_stays : (events : ℕ) (jobs : List Job) (e : State) → Stay e → Stay (released_by events jobs e)
  met_stays events [] e h = h
  met_stays events (j ∷ js) e h =
      cond_both Stay (is_met events j.waits_for) (released j.id e) e (released_alarms j.id e ∙ h) h

  pub event_stays : (t m : ℕ) → Stay (event_set t m s)
  event_stays t m =
      let events = bit_or (slice_index s.masks t) m in
      met_stays events (jobs_of t s.jobs) (with_events t events s) refl

  caller_stays : (who : Caller) (f : Job → Job) → Stay (with_caller who f s)
  caller_stays (JobCalls j) f = refl
  caller_stays (RoutineCalls r) f = refl
  caller_stays NobodyCalls f = refl

  ended_stays : (who : Caller) → Stay (caller_ended who s)
  ended_stays (JobCalls j) = refl
  ended_stays (RoutineCalls r) = refl
  ended_stays NobodyCalls = refl

  cleared_stays : (who : Caller) (m : ℕ) → Stay (events_cleared who m s)
  cleared_stays (JobCalls j) m = refl
  cleared_stays (RoutineCalls r) m = refl
  cleared_stays NobodyCalls m = refl

  awaited_stays : (who : Caller) (m : ℕ) → Stay (event_awaited who m s)
  awaited_stays (JobCalls j) m =
      cond_both Stay (meets m (slice_index s.masks j.id.task)) s
      (with_caller (JobCalls j) (waiting_for m) s) refl refl
  awaited_stays (RoutineCalls r) m = refl
  awaited_stays NobodyCalls m = refl

-- ---- services

module _ (S : System) (c : Weights) (s : State) where
  abbrev now : State → ℕ
  now e = left_of_alarms S c e.alarms

  stay : (e : State) → Stay s e → now e ≤ now s + 0
  stay e same = let is = ap (left_of_alarms S c) same in omega (arith, is)

  effect_sets : (who : Caller) (call : ServiceCall)
      → now (effect S who s call) ≤ now s + set_of c call
  effect_sets who (Service.ActivateTask (Some t)) =
      stay (activated S t s) (activated_alarms S t s)
  effect_sets who Service.TerminateTask = stay (caller_ended who s) (ended_stays s who)
  effect_sets who (Service.ChainTask (Some t)) =
      stay (activated S t (caller_ended who s))
      (activated_alarms S t (caller_ended who s) ∙ ended_stays s who)
  effect_sets who Service.Schedule =
      stay (effect S who s Service.Schedule)
      (cond_both (Stay s) (is_outranked S who s.jobs) (with_caller who given_up s) s
      (caller_stays s who given_up) refl)
  effect_sets who (Service.GetResource (Some r)) =
      stay (with_caller who (gets r) s) (caller_stays s who (gets r))
  effect_sets who (Service.ReleaseResource (Some r)) =
      stay (with_caller who releases s) (caller_stays s who releases)
  effect_sets who (Service.StoreShared (Some r) i v) = omega arith
  effect_sets who (Service.SetEvent (Some t) m) = stay (event_set t m s) (event_stays s t m)
  effect_sets who (Service.ClearEvent m) = stay (events_cleared who m s) (cleared_stays s who m)
  effect_sets who (Service.WaitEvent m) = stay (event_awaited who m s) (awaited_stays s who m)
  effect_sets who (Service.SetRelAlarm (Some b) x y) = one_set S c s.alarms b _
  effect_sets who (Service.SetAbsAlarm (Some b) x y) = one_set S c s.alarms b _
  effect_sets who (Service.CancelAlarm (Some b)) =
      let less = one_off S c s.alarms b in omega (arith, less)
  effect_sets who _ = omega arith

  reply_sets : (who : Caller) (call : ServiceCall) (o : Option Status)
      → now (reply_to S who s call o).state
      ≤ now s + set_where c (reply_to S who s call o).status call
  reply_sets who call None = effect_sets who call
  reply_sets who call (Some refusal) = omega arith

  service_sets : (who : Caller) (call : ServiceCall)
      → now (service S who s call).state ≤ now s + set_where c (service S who s call).status call
  unfolding service
  service_sets who call =
      reply_sets who call
      (first_refusal ((interrupts_off s, Status.SysDisabled) ∷ refusals S who s call))

  -- ---- an instruction

  pub instruction_sets : (owner : Owner) (who : Caller) (x : Context) (what : Instr)
      → now (executed S owner who x what s).state ≤ now s + set_by S c who s (call_in x what)
  instruction_sets owner who x (Instr.Plain plain) = omega arith
  instruction_sets owner who x (Instr.Service call) = service_sets who (at_values x call)
  instruction_sets owner who x (Instr.Control Control.DisableAllInterrupts) = omega arith
  instruction_sets owner who x (Instr.Control control) = omega arith
