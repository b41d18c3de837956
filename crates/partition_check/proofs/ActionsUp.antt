-- Services by who calls them: a job, a routine, or an alarm whose action calls. And the activations of boot.
use Rattle.std.proofs.Common.{◌≡◌, ℕ, ◌<◌, true, false, length, refl, ap}
use Rattle.std.specs.Prelude.{Some, not, ◌&&◌}
use Rattle.osek_base.specs.declared.instr.Service.{Service}
use Rattle.osek_base.specs.Types.{ServiceCall}
use Rattle.osek_base.specs.declared.task.Action.{Action}
use Rattle.osek_base.specs.System.{System}
use Rattle.osek_base.specs.State.{State}
use Rattle.osek_base.specs.Activation.{activated}
use Rattle.osek_base.specs.Service.{NobodyCalls, unasked_service}
use Rattle.osek_base.specs.Tick.{action_call}
use Rattle.osek_base.specs.Upper.{is_upper_task, action_task}
use Rattle.osek_base.specs.Agree.{upper_core}
use Rattle.partition_check.proofs.UpperState.{up}
use Rattle.partition_check.proofs.Shared.{IsCounterpart, IsLow, IsLayered, IsSameReply}
use Rattle.partition_check.proofs.PriorityUp.{later_tasks}
use Rattle.partition_check.proofs.ServiceUp.{unasked_up}
use Rattle.partition_check.proofs.LayersKept.{IsLaid, activated_laid, laid_of}
use Rattle.partition_check.proofs.ServiceLow.{IsUnseen, activated_unseen, activation_unseen, event_unseen, activation_layered, event_layered}

module _ (S : System) (p : ℕ) (both : IsCounterpart S p) (below : IsLow S p) (s : State) (layered : IsLayered S p s) where
  -- the action of an upper alarm
  pub action_up : (action : Action) → action_task action < length S.tasks → is_upper_task S p (action_task action) ≡ true
      → IsSameReply S p (unasked_service S NobodyCalls s (action_call action))
      (unasked_service (upper_core S p) NobodyCalls (up S p s) (action_call action))
  action_up (Action.ActivateTask t) inside high =
      unasked_up S p both below s NobodyCalls (Service.ActivateTask (Some t)) layered tt
      (record { known = inside; names = ap (λ b. true && not b) high; by_routine = λ a e. refl }) refl
  action_up (Action.SetEvent t m) inside high =
      unasked_up S p both below s NobodyCalls (Service.SetEvent (Some t) m) layered tt
      (record { known = inside; names = ap (λ b. true && not b) high; by_routine = λ a e. refl }) refl

-- the action of a lower alarm
pub action_unseen : (S : System) (p : ℕ) → IsCounterpart S p → (s : State) (action : Action)
    → action_task action < length S.tasks → is_upper_task S p (action_task action) ≡ false
    → up S p (unasked_service S NobodyCalls s (action_call action)).state ≡ up S p s
action_unseen S p both s (Action.ActivateTask t) inside low = activation_unseen S p both s t inside low
action_unseen S p both s (Action.SetEvent t m) inside low = event_unseen S p both s t m inside low

-- the action of an alarm keeps the layers
pub action_layered : (S : System) (p : ℕ) (s : State) (action : Action) → action_task action < length S.tasks → IsLayered S p s
    → IsLayered S p (unasked_service S NobodyCalls s (action_call action)).state
action_layered S p s (Action.ActivateTask t) inside layered = activation_layered S p s t inside layered
action_layered S p s (Action.SetEvent t m) inside layered = event_layered S p s t m inside layered

-- ---- activations at boot

pub activated_lower_up : (S : System) (p : ℕ) → IsCounterpart S p → (t : ℕ) (s : State) → t < length S.tasks → is_upper_task S p t ≡ false
    → up S p (activated S t s) ≡ up S p s
unfolding activated
activated_lower_up S p both t s inside low =
    let unseen : IsUnseen S p s (activated S t s) = activated_unseen S p t s (later_tasks S p both t inside low) low in
    λ i. record (up S p s) {
      jobs = unseen.jobs i;
      made = unseen.made i;
      masks = unseen.masks i;
      alarms = unseen.alarms i;
      shared = unseen.shared i;
    }

pub activated_layered : (S : System) (p t : ℕ) (s : State) → t < length S.tasks → IsLayered S p s → IsLayered S p (activated S t s)
unfolding activated
activated_layered S p t s inside layered =
    let after : IsLaid S p (activated S t s) = activated_laid S p t s inside (laid_of S p s layered) in
    record {
      made = after.made;
      masks = after.masks;
      alarms = after.alarms;
      shared = after.shared;
      jobs = after.jobs;
      running = layered.running;
      quiet = layered.quiet;
    }
