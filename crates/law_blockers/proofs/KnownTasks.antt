-- The tasks on which alarms act exist.
use Rattle.std.proofs.Common.{◌≡◌, ℕ, ◌<◌, true, length, subst}
use Rattle.osek_base.specs.declared.task.Action.{Action}
use Rattle.osek_base.specs.System.{System, alarm}
use Rattle.osek_base.specs.Proper.{IsProper, is_proper_action}
use Rattle.law_runs.proofs.Known.{proper_alarm_at}
use Rattle.law_runs.proofs.SingleTick.{true_lt}
use Rattle.law_blockers.specs.Restamping.{acting_task}
use Rattle.std.proofs.lemmas.Bool.{and_parts}

-- the task on which an alarm acts exists
task_known : (S : System) (action : Action) → is_proper_action S action ≡ true → acting_task action < length S.tasks
task_known S (Action.ActivateTask t) h = true_lt t (length S.tasks) h
task_known S (Action.SetEvent t m) h = true_lt t (length S.tasks) (and_parts _ _ (and_parts _ _ h).0).0

pub acts_task : (S : System) (a : ℕ) (action : Action) → IsProper S → a < length S.alarms → (alarm S a).action ≡ action
    → acting_task action < length S.tasks
acts_task S a action proper inside is =
    task_known S action (subst (λ v. is_proper_action S v ≡ true) is (and_parts _ _ (and_parts _ _ (proper_alarm_at S a proper inside)).0).1)
