-- OSEK/VDX OS: task management. What a service does to the stamps of jobs, as its status tells.
use Rattle.std.specs.Prelude.{ℕ, ◌≡◌, ◌<◌, ◌≤◌, ◌∷◌, ◌++◌, [], Option, Some, None, length}
use Rattle.osek_base.specs.declared.ids.Owner.{Owner}
use Rattle.osek_base.specs.declared.instr.Service.{Service}
use Rattle.osek_base.specs.declared.limits.TheConstants.{MAX_ACTIVATION}
use Rattle.osek_base.specs.declared.status.Status.{Status}
use Rattle.osek_base.specs.declared.task.Action.{Action}
use Rattle.osek_base.specs.System.{System, activation_of, alarm}
use Rattle.osek_base.specs.Types.{ServiceCall}
use Rattle.kernel_stamps.specs.Stamps.{without_oldest}
use Rattle.law_blockers.specs.Restamping.{StampLists, changed_list, stamps_at}

-- a job more of a task, where there is one, is ready from a tick on
abbrev pub job_added : ℕ → Option ℕ → StampLists → StampLists
job_added u None xs = xs
job_added u (Some t) xs = changed_list t (λ list. list ++ Some u ∷ []) xs

-- the oldest job of a task that executes has ended
abbrev pub job_ended : Owner → StampLists → StampLists
job_ended (Owner.Task t) xs = changed_list t without_oldest xs
job_ended (Owner.Routine i) xs = xs

-- a service of who executes was answered E_OK
abbrev pub job_changed : ℕ → Owner → ServiceCall → StampLists → StampLists
job_changed u owner (Service.ActivateTask t) xs = job_added u t xs
job_changed u owner Service.TerminateTask xs = job_ended owner xs
job_changed u owner _ xs = xs

-- it was answered that status
abbrev pub job_changed_if : Status → ℕ → Owner → ServiceCall → StampLists → StampLists
job_changed_if Status.Ok u owner call xs = job_changed u owner call xs
job_changed_if _ u owner call xs = xs

-- a task, where there is one, has stamps, and room for another
abbrev pub MayAdd : Option ℕ → StampLists → Type 0
MayAdd None xs = Unit {0}
MayAdd (Some t) xs = (t < length xs) × (length (stamps_at xs t) < MAX_ACTIVATION)

-- who executes has stamps, if it is a task
abbrev pub IsStamped : Owner → StampLists → Type 0
IsStamped (Owner.Task t) xs = t < length xs
IsStamped (Owner.Routine i) xs = Unit {0}

-- what a service asks for that was answered E_OK
abbrev pub MayChange : Owner → ServiceCall → StampLists → Type 0
MayChange owner (Service.ActivateTask t) xs = MayAdd t xs
MayChange owner Service.TerminateTask xs = IsStamped owner xs
MayChange owner _ xs = Unit {0}

abbrev pub MayChangeIf : Status → Owner → ServiceCall → StampLists → Type 0
MayChangeIf Status.Ok owner call xs = MayChange owner call xs
MayChangeIf _ owner call xs = Unit {0}

-- ---- alarms

-- an alarm activates that task, which is one of the tasks
pub record Activates (S : System) (a t : ℕ) : Type 0 where
  pub value : (alarm S a).action ≡ Action.ActivateTask t
  pub known : t < length S.tasks
  pub few : activation_of S t ≤ MAX_ACTIVATION

-- the activation of a task was answered that status
abbrev pub job_added_if : Status → ℕ → ℕ → StampLists → StampLists
job_added_if Status.Ok u t xs = job_added u (Some t) xs
job_added_if _ u t xs = xs

abbrev pub MayAddIf : Status → ℕ → StampLists → Type 0
MayAddIf Status.Ok t xs = MayAdd (Some t) xs
MayAddIf _ t xs = Unit {0}
