-- In each run: the running job is ready between ticks, phases 1 to 4 are those over what is kept, and a service may be
-- called where an instruction is executed.
use Rattle.std.proofs.Common.{◌≡◌, ℕ, Bool, true, false, cond, refl, ◌∙◌, ap}
use Rattle.std.specs.Prelude.{Option, Some, None, ◌==◌, is_some, slice_index, bit_or}
use Rattle.osek_base.specs.declared.status.Status.{Status}
use Rattle.osek_base.specs.declared.instr.Service.{Service}
use Rattle.osek_base.specs.System.{System}
use Rattle.osek_base.specs.State.{State}
use Rattle.osek_base.specs.Service.{first_refusal, is_met}
use Rattle.osek_base.specs.Tick.{before_execution}
use Rattle.osek_base.specs.Trace.{run}
use Rattle.law_runs.proofs.Foremost.{equal}
use Rattle.law_runs.proofs.RankedTick.{IsRunState, IsExecuting, before_executing, run_ordered}
use Rattle.law_runs.proofs.FormedTick.{run_form}
use Rattle.law_kept.specs.Kept.{Kept, Slot}
use Rattle.ready_queues.specs.QueueMoves.{changed_at}
use Rattle.law_kept.specs.Moves.{one_more, activated_in, slot_woken, released_in}
use Rattle.law_kept.specs.KeptService.{ByNobody, refusals_in, reply_in, unasked_in, with_mask}
use Rattle.law_kept.specs.Standing.{waits_in, runner_waits, ReadyBetweenTicks, ActionKeepsReady, BeforeAlike, ServesInRuns}
use Rattle.law_kept.proofs.Ticked.{before_kept}
use Rattle.law_kept.proofs.Runner.{unwaiting}
use Rattle.law_kept.proofs.Serving.{not_overtaken}

pub ready_between_ticks : ReadyBetweenTicks
ready_between_ticks S mode arrivals n proper =
    let good : IsRunState S (run S mode arrivals n).state = run_ordered S proper mode arrivals n in
    unwaiting S (run S mode arrivals n).state good.single good.ordered.ready

pub before_alike : BeforeAlike
before_alike S mode arrivals n arrived proper =
    before_kept S proper arrived (run S mode arrivals n).state (run_ordered S proper mode arrivals n)
    (run_form S proper mode arrivals n)

pub serves_in_runs : ServesInRuns
serves_in_runs S mode arrivals n arrived proper =
    let there : State = (before_execution S arrived (run S mode arrivals n).state).state in
    let executing : IsExecuting S proper (before_execution S arrived (run S mode arrivals n).state).state =
    before_executing S proper arrived (run S mode arrivals n).state (run_ordered S proper mode arrivals n) in
    record {
      ready =
          λ on. unwaiting S (before_execution S arrived (run S mode arrivals n).state).state executing.good.single executing.good.ordered.ready;
      chosen =
          λ may. not_overtaken S (before_execution S arrived (run S mode arrivals n).state).state executing.good.single executing.good.ordered.ready (executing.dispatched may);
    }

-- ---- an alarm's action

-- no task waits that didn't wait before
abbrev IsWokenAt : (ℕ → Slot) → (ℕ → Slot) → Type 0
IsWokenAt before after = (u : ℕ) → is_some (before u).waits_for ≡ false → is_some (after u).waits_for ≡ false

woken_runner : (running : Option ℕ) (gone : Bool) (before after : ℕ → Slot) → IsWokenAt before after
    → waits_in running gone before ≡ false → waits_in running gone after ≡ false
woken_runner None gone before after woken h = refl
woken_runner (Some t) true before after woken h = refl
woken_runner (Some t) false before after woken h = woken t h

changed_woken : (slots : ℕ → Slot) (t : ℕ) (a : Slot)
    → (is_some (slots t).waits_for ≡ false → is_some a.waits_for ≡ false) → IsWokenAt slots (changed_at slots t a)
changed_woken slots t a woken u h = go (t == u) refl
  where
    go : (b : Bool) → (t == u) ≡ b → is_some (cond b a (slots u)).waits_for ≡ false
    go true e = woken (ap (λ v. is_some (slots v).waits_for) (equal t u e) ∙ h)
    go false e = h

module _ (S : System) (o : Kept) (unwaits : runner_waits o ≡ false) where
  activated_ready : (t : ℕ) → runner_waits (activated_in S t o) ≡ false
  activated_ready t =
      woken_runner o.running o.gone o.slots (changed_at o.slots t (one_more (o.slots t)))
      (changed_woken o.slots t (one_more (o.slots t)) (λ h. h)) unwaits

  set_ready : (t m : ℕ) (b : Bool)
      → runner_waits (cond b (released_in S t (with_mask t m o)) (with_mask t m o)) ≡ false
  set_ready t m true =
      woken_runner o.running o.gone o.slots (changed_at o.slots t (slot_woken (o.slots t)))
      (changed_woken o.slots t (slot_woken (o.slots t)) (λ h. refl)) unwaits
  set_ready t m false = unwaits

  activate_ready : (t : ℕ) → runner_waits (unasked_in S ByNobody o (Service.ActivateTask (Some t))).state ≡ false
  unfolding unasked_in
  activate_ready t = go (first_refusal (refusals_in S ByNobody o (Service.ActivateTask (Some t))))
    where
      go : (refusal : Option Status)
          → runner_waits (reply_in S ByNobody o (Service.ActivateTask (Some t)) refusal).state ≡ false
      go None = activated_ready t
      go (Some refusal) = unwaits

  set_event_ready : (t m : ℕ) → runner_waits (unasked_in S ByNobody o (Service.SetEvent (Some t) m)).state ≡ false
  unfolding unasked_in
  set_event_ready t m = go (first_refusal (refusals_in S ByNobody o (Service.SetEvent (Some t) m)))
    where
      go : (refusal : Option Status)
          → runner_waits (reply_in S ByNobody o (Service.SetEvent (Some t) m) refusal).state ≡ false
      go None =
          set_ready t (bit_or (slice_index o.masks t) m)
          (is_met (bit_or (slice_index o.masks t) m) (o.slots t).waits_for)
      go (Some refusal) = unwaits

pub action_keeps_ready : ActionKeepsReady
action_keeps_ready S o t m unwaits = (activate_ready S o unwaits t, set_event_ready S o unwaits t m)
