-- A proper system in which all tasks, resources and alarms are upper: its own upper part, and separable but for rule 7.
use Rattle.std.proofs.Common.{◌≡◌, ℕ, ◌<◌, Bool, true, false, not, ◌&&◌, nat_lt, nat_le, List, [], ◌∷◌, map, length, refl, sym, ◌∙◌, ap, ap₂, arith}
use Rattle.std.specs.Prelude.{Option, Some, None, slice_get, slice_index_or}
use Rattle.std.specs.List.{list_all}
use Rattle.osek_base.specs.declared.ids.ResId.{ResId}
use Rattle.osek_base.specs.declared.ids.Owner.{Owner}
use Rattle.osek_base.specs.declared.instr.Service.{Service}
use Rattle.osek_base.specs.Types.{ServiceCall}
use Rattle.osek_base.specs.declared.instr.Instr.{Instr}
use Rattle.osek_base.specs.declared.task.Property.{Property}
use Rattle.osek_base.specs.Lists.{below}
use Rattle.osek_base.specs.Names.{Names, name_at}
use Rattle.osek_base.specs.System.{System, Task, Routine, Alarm, task, routine, alarm, program, no_task, no_routine, no_alarm}
use Rattle.osek_base.specs.Ceiling.{declared_ceiling}
use Rattle.osek_base.specs.Upper.{Object, TheTask, TheResource, TheAlarm, is_upper_task, is_upper_alarm, is_upper_object, action_task, named_object}
use Rattle.osek_base.specs.Agree.{kept, rank, is_upper_declared, renumbered, renumbered_service, upper_task, upper_routine, upper_part}
use Rattle.osek_base.specs.Proper.{IsProper, is_proper_service, is_proper_instruction, is_proper_task, is_proper_routine}
use Rattle.osek_base.specs.Separable.{Separable, IsLowerTask, IsOwner, NoInstruction, asks_task_id, names_lower, passes_named, is_scheduler_object}
use Rattle.partition_check.proofs.Falling.{all_at, by_number, map_below}
use Rattle.partition_check.proofs.Ranks.{clash, all_kept}
use Rattle.partition_check.proofs.Shared.{IsKnownObject}
use Rattle.partition_check.proofs.ProgramFacts.{instruction_known, all_get}
use Rattle.partition_check.proofs.CoreFacts.{true_lt, each_task}
use Rattle.partition_check.proofs.Picked.{all_rank}
use Rattle.partition_check.proofs.PartProper.{equal_length}
use Rattle.std.proofs.lemmas.Bool.{and_parts}

-- everything is upper
pub record IsWhole (S : System) (p : ℕ) : Type 0 where
  pub tasks : (t : ℕ) → t < length S.tasks → is_upper_task S p t ≡ true
  pub resources : (r : ℕ) → r < length S.resources → is_upper_declared S p r ≡ true
  pub alarms : (a : ℕ) → a < length S.alarms → is_upper_alarm S p a ≡ true

-- ---- systems that are equal part by part

same_names : (a : Names) (tasks resources alarms : List (List ℕ)) → tasks ≡ a.tasks → resources ≡ a.resources → alarms ≡ a.alarms
    → record { tasks = tasks; routines = a.routines; resources = resources; events = a.events; alarms = alarms; modes = a.modes } ≡ a
same_names a tasks resources alarms h i j =
    ap (λ x. record a { tasks = x; resources = resources; alarms = alarms }) h
    ∙ ap (λ x. record a { resources = x; alarms = alarms }) i
    ∙ ap (λ x. record a { alarms = x }) j

same_system : (S : System) (names : Names) (tasks : List Task) (routines : List Routine) (resources : List Property) (alarms : List Alarm)
    → names ≡ S.names → tasks ≡ S.tasks → routines ≡ S.routines → resources ≡ S.resources → alarms ≡ S.alarms
    → record S { names = names; tasks = tasks; routines = routines; resources = resources; alarms = alarms } ≡ S
same_system S names tasks routines resources alarms h i j k l =
    ap (λ x. record S { names = x; tasks = tasks; routines = routines; resources = resources; alarms = alarms }) h
    ∙ ap (λ x. record S { tasks = x; routines = routines; resources = resources; alarms = alarms }) i
    ∙ ap (λ x. record S { routines = x; resources = resources; alarms = alarms }) j
    ∙ ap (λ x. record S { resources = x; alarms = alarms }) k
    ∙ ap (λ x. record S { alarms = x }) l

module _ (S : System) (p : ℕ) (proper : IsProper S) (whole : IsWhole S p) where
  -- ---- programs stay as they are

  same_resource_number : (r : ℕ) → nat_lt r (length S.resources) ≡ true → rank (is_upper_declared S p) r ≡ r
  same_resource_number r h =
      all_rank (is_upper_declared S p) (length S.resources) r whole.resources (omega (arith, true_lt r (length S.resources) h))

  same_alarm_number : (a : ℕ) → nat_lt a (length S.alarms) ≡ true → rank (is_upper_alarm S p) a ≡ a
  same_alarm_number a h =
      all_rank (is_upper_alarm S p) (length S.alarms) a whole.alarms (omega (arith, true_lt a (length S.alarms) h))

  service_same : (call : ServiceCall) → is_proper_service S call ≡ true → renumbered_service S p call ≡ call
  service_same (Service.ActivateTask t) h = refl
  service_same Service.TerminateTask h = refl
  service_same (Service.ChainTask t) h = refl
  service_same Service.Schedule h = refl
  service_same Service.GetTaskId h = refl
  service_same (Service.GetTaskState t) h = refl
  service_same (Service.GetResource None) h = refl
  service_same (Service.GetResource (Some (ResId.Declared r))) h =
      ap (λ n. Service.GetResource (Some (ResId.Declared n))) (same_resource_number r (and_parts _ _ h).0)
  service_same (Service.GetResource (Some ResId.Scheduler)) h = refl
  service_same (Service.ReleaseResource None) h = refl
  service_same (Service.ReleaseResource (Some (ResId.Declared r))) h =
      ap (λ n. Service.ReleaseResource (Some (ResId.Declared n))) (same_resource_number r (and_parts _ _ h).0)
  service_same (Service.ReleaseResource (Some ResId.Scheduler)) h = refl
  service_same (Service.LoadShared None x) h = refl
  service_same (Service.LoadShared (Some (ResId.Declared r)) x) h =
      ap (λ n. Service.LoadShared (Some (ResId.Declared n)) x) (same_resource_number r (and_parts _ _ (and_parts _ _ h).0).0)
  service_same (Service.LoadShared (Some ResId.Scheduler) x) h = refl
  service_same (Service.StoreShared None x y) h = refl
  service_same (Service.StoreShared (Some (ResId.Declared r)) x y) h =
      ap (λ n. Service.StoreShared (Some (ResId.Declared n)) x y)
      (same_resource_number r (and_parts _ _ (and_parts _ _ (and_parts _ _ h).0).0).0)
  service_same (Service.StoreShared (Some ResId.Scheduler) x y) h = refl
  service_same (Service.SetEvent t m) h = refl
  service_same (Service.ClearEvent m) h = refl
  service_same (Service.GetEvent t) h = refl
  service_same (Service.WaitEvent m) h = refl
  service_same (Service.SetRelAlarm None x y) h = refl
  service_same (Service.SetRelAlarm (Some a) x y) h =
      ap (λ n. Service.SetRelAlarm (Some n) x y) (same_alarm_number a (and_parts _ _ (and_parts _ _ h).0).0)
  service_same (Service.SetAbsAlarm None x y) h = refl
  service_same (Service.SetAbsAlarm (Some a) x y) h =
      ap (λ n. Service.SetAbsAlarm (Some n) x y) (same_alarm_number a (and_parts _ _ (and_parts _ _ h).0).0)
  service_same (Service.CancelAlarm None) h = refl
  service_same (Service.CancelAlarm (Some a)) h = ap (λ n. Service.CancelAlarm (Some n)) (same_alarm_number a h)
  service_same (Service.GetAlarm None) h = refl
  service_same (Service.GetAlarm (Some a)) h = ap (λ n. Service.GetAlarm (Some n)) (same_alarm_number a h)
  service_same (Service.GetAlarmBase None) h = refl
  service_same (Service.GetAlarmBase (Some a)) h = ap (λ n. Service.GetAlarmBase (Some n)) (same_alarm_number a h)

  instr_same : (in_routine : Bool) (size : ℕ) (x : Instr) → is_proper_instruction S in_routine size x ≡ true → renumbered S p x ≡ x
  instr_same in_routine size (Instr.Plain x) h = refl
  instr_same in_routine size (Instr.Service call) h = ap Instr.Service (service_same call h)
  instr_same in_routine size (Instr.Control x) h = refl

  program_same : (in_routine : Bool) (size : ℕ) (xs : List Instr) → list_all (is_proper_instruction S in_routine size) xs ≡ true → map (renumbered S p) xs ≡ xs
  program_same in_routine size [] h = refl
  program_same in_routine size (x ∷ xs) h =
      let both = and_parts (is_proper_instruction S in_routine size x) (list_all (is_proper_instruction S in_routine size) xs) h in
      ap₂ (λ y ys. y ∷ ys) (instr_same in_routine size x both.0) (program_same in_routine size xs both.1)

  numbers_same : (ns : List ℕ) → list_all (λ r. nat_lt r (length S.resources)) ns ≡ true → map (rank (is_upper_declared S p)) ns ≡ ns
  numbers_same [] h = refl
  numbers_same (n ∷ ns) h =
      let both = and_parts (nat_lt n (length S.resources)) (list_all (λ r. nat_lt r (length S.resources)) ns) h in
      ap₂ (λ y ys. y ∷ ys) (same_resource_number n both.0) (numbers_same ns both.1)

  -- ---- objects stay as they are

  record_same : (a : Task) (resources : List ℕ) (program : List Instr) → resources ≡ a.resources → program ≡ a.program
      → record a { resources = resources; program = program } ≡ a
  record_same a resources program h i =
      ap (λ x. record a { resources = x; program = program }) h ∙ ap (λ x. record a { program = x }) i

  task_same : (t : ℕ) → t < length S.tasks → upper_task S p t ≡ task S t
  task_same t inside =
      let here : is_proper_task S (task S t) ≡ true = all_at (is_proper_task S) S.tasks t no_task (each_task S p proper) inside in
      let both = and_parts _ _ here in
      let resources = (and_parts _ _ both.0).1 in
      let program = and_parts _ _ (and_parts _ _ both.1).0 in
      record_same (task S t) (map (rank (is_upper_declared S p)) (task S t).resources) (map (renumbered S p) (task S t).program)
      (numbers_same (task S t).resources (and_parts _ _ (and_parts _ _ resources).0).0)
      (program_same false (length (task S t).program) (task S t).program program.0)

  routines_same : (all : List Routine) → list_all (is_proper_routine S) all ≡ true → map (upper_routine S p) all ≡ all
  routines_same [] h = refl
  routines_same (a ∷ all) h =
      let both = and_parts (is_proper_routine S a) (list_all (is_proper_routine S) all) h in
      let program = and_parts _ _ (and_parts _ _ (and_parts _ _ both.0).1).0 in
      ap₂ (λ (b : Routine) (bs : List Routine). b ∷ bs)
      (ap (λ x. record a { program = x }) (program_same true (length a.program) a.program program.0))
      (routines_same all both.1)

  -- ---- lists stay as they are

  list_same : {X : Type 0} (xs : List X) (d : X) (test : ℕ → Bool) → ((i : ℕ) → i < length xs → test i ≡ true)
      → map (λ i. slice_index_or xs i d) (kept test (length xs)) ≡ xs
  list_same xs d test all = ap (map (λ i. slice_index_or xs i d)) (all_kept test (length xs) all) ∙ by_number xs d

  names_same : (xs : List (List ℕ)) (test : ℕ → Bool) (n : ℕ) → length xs ≡ n → ((i : ℕ) → i < n → test i ≡ true)
      → map (name_at xs) (kept test n) ≡ xs
  names_same xs test n h all =
      ap (map (name_at xs)) (all_kept test n all) ∙ ap (λ m. map (name_at xs) (below m)) (sym h) ∙ by_number xs []

  pub whole_part : upper_part S p ≡ S
  whole_part =
      let named_alarms = and_parts _ _ proper.named in
      let named_events = and_parts _ _ named_alarms.0 in
      let named_resources = and_parts _ _ named_events.0 in
      let named_routines = and_parts _ _ named_resources.0 in
      let routines = (and_parts _ _ (and_parts _ _ (and_parts _ _ (and_parts _ _ proper.objects).0).0).0).1 in
      same_system S (upper_part S p).names (upper_part S p).tasks (upper_part S p).routines (upper_part S p).resources (upper_part S p).alarms
      (same_names S.names (upper_part S p).names.tasks (upper_part S p).names.resources (upper_part S p).names.alarms
      (names_same S.names.tasks (is_upper_task S p) (length S.tasks) (equal_length _ _ named_routines.0) whole.tasks)
      (names_same S.names.resources (is_upper_declared S p) (length S.resources) (equal_length _ _ named_resources.1) whole.resources)
      (names_same S.names.alarms (is_upper_alarm S p) (length S.alarms) (equal_length _ _ named_alarms.1) whole.alarms))
      (ap (map (upper_task S p)) (all_kept (is_upper_task S p) (length S.tasks) whole.tasks)
      ∙ map_below (upper_task S p) (task S) (length S.tasks) task_same ∙ by_number S.tasks no_task)
      (routines_same S.routines routines)
      (list_same S.resources Property.Standard (is_upper_declared S p) whole.resources)
      (list_same S.alarms no_alarm (is_upper_alarm S p) whole.alarms)

-- ---- separable but for rule 7

named_upper : (S : System) (p : ℕ) → IsWhole S p → (o : Option Object) → IsKnownObject S o
    → passes_named (λ a. not (is_scheduler_object a) && not (is_upper_object S p a)) o ≡ false
named_upper S p whole None h = refl
named_upper S p whole (Some (TheTask t)) h = ap not (whole.tasks t h)
named_upper S p whole (Some (TheResource (ResId.Declared r))) h = ap not (whole.resources r h)
named_upper S p whole (Some (TheResource ResId.Scheduler)) h = refl
named_upper S p whole (Some (TheAlarm a)) h = ap not (whole.alarms a h)

module _ (S : System) (p : ℕ) (proper : IsProper S) (whole : IsWhole S p) where
  each_routine_of : list_all (is_proper_routine S) S.routines ≡ true
  each_routine_of = (and_parts _ _ (and_parts _ _ (and_parts _ _ (and_parts _ _ proper.objects).0).0).0).1

  owner_names : (owner : Owner) → IsOwner S owner → (place : ℕ) (x : Instr) → slice_get (program S owner) place ≡ Some x → names_lower S p x ≡ false
  owner_names (Owner.Task t) inside place x e =
      let here : is_proper_task S (task S t) ≡ true = all_at (is_proper_task S) S.tasks t no_task (each_task S p proper) inside in
      let body = and_parts _ _ (and_parts _ _ (and_parts _ _ here).1).0 in
      named_upper S p whole (named_object x)
      (instruction_known S false (length (task S t).program) x
      (all_get (is_proper_instruction S false (length (task S t).program)) (task S t).program place x body.0 e))
  owner_names (Owner.Routine i) inside place x e =
      let here : is_proper_routine S (routine S i) ≡ true = all_at (is_proper_routine S) S.routines i no_routine each_routine_of inside in
      let body = and_parts _ _ (and_parts _ _ (and_parts _ _ here).1).0 in
      named_upper S p whole (named_object x)
      (instruction_known S true (length (routine S i).program) x
      (all_get (is_proper_instruction S true (length (routine S i).program)) (routine S i).program place x body.0 e))

  no_lower : (t : ℕ) → IsLowerTask S p t → ⊥
  no_lower t h = clash (sym (whole.tasks t h.0) ∙ h.1)

  pub whole_separable : ((i : ℕ) → i < length S.routines → NoInstruction S (Owner.Routine i) asks_task_id) → Separable S p
  whole_separable asks =
      record {
        full = λ t h. absurd (no_lower t h);
        resources = λ t r h k. absurd (no_lower t h);
        no_scheduler = λ t h place x e. absurd (no_lower t h);
        no_control = λ t h place x e. absurd (no_lower t h);
        lower_names = λ t h place x e. absurd (no_lower t h);
        upper_names = λ owner inside high place x e. owner_names owner inside place x e;
        no_task_id = asks;
      }

from_zero : (n : ℕ) → nat_le 0 n ≡ true
from_zero n = grind arith

-- all is upper at 0
pub whole_at_zero : (S : System) → IsProper S → upper_part S 0 ≡ S
whole_at_zero S proper =
    whole_part S 0 proper
    (record {
      tasks = λ t h. from_zero (task S t).priority;
      resources = λ r h. from_zero (declared_ceiling S r);
      alarms = λ a h. from_zero (task S (action_task (alarm S a).action)).priority;
    })
