-- What tasks list and counters are proper in the system of a file that generation accepts.
use Rattle.std.proofs.Common.{◌≡◌, ℕ, ◌<◌, ◌≤◌, Bool, true, false, not, ◌&&◌, ◌||◌, List, [], ◌∷◌, map, length, refl, sym, ◌∙◌, ap, subst, arith}
use Rattle.std.specs.Prelude.{Option, Some, None, Ok, ◌==◌, nat_lt, nat_le, bytes_eq, if◌then◌else◌}
use Rattle.std.specs.List.{list_all, AllByRecursion}
use Rattle.std.proofs.lemmas.Bool.{leb-true, eq-eqb, and_parts, and_from, and_right}
use Rattle.std.proofs.lemmas.List.{length-map}
use Rattle.std.proofs.lemmas.List.Folds.{list_all-map}
use Rattle.osek_base.specs.declared.limits.TheConstants.{MAX_ACTIVATION}
use Rattle.osek_base.specs.declared.task.Schedule.{Schedule}
use Rattle.osek_base.specs.declared.task.Property.{Property}
use Rattle.osek_base.specs.Lists.{is_empty}
use Rattle.osek_base.specs.Names.{is_named, are_distinct_names}
use Rattle.osek_base.specs.System.{System}
use Rattle.osek_base.specs.Ceiling.{is_internal, is_internal_property}
use Rattle.osek_base.specs.Proper.{is_proper_mask, is_proper_activation, modes_exist, are_proper_resources, is_single_internal, is_proper_program, is_proper_task, is_proper_counter}
use Rattle.osek_base.proofs.PlaceLemmas.{all_at}
use Rattle.task_asm.specs.declared.program.ProgramKind.{ProgramKind}
use Rattle.task_asm.specs.Programs.{Program}
use Rattle.system_gen.specs.declared.fault.GenFault.{GenFault}
use Rattle.oil_reader.specs.Configuration.{Configuration, TaskRecord, ResourceRecord, CounterRecord}
use Rattle.oil_reader.specs.Checked.{is_checked, is_checked_task, are_checked_tasks, are_checked_resources, are_checked_events, are_checked_counters, is_checked_counter}
use Rattle.system_gen.specs.Checks as checks
use Rattle.system_gen.specs.Checks.{first_fault, has_proper_activation, has_proper_resources, is_internal_named, activation_fault, resource_fault, counter_fault}
use Rattle.system_gen.specs.DeclaredNames.{declared_in, number}
use Rattle.system_gen.specs.References.{first_of, unknown, unknown_in, task_reference}
use Rattle.system_gen.specs.Masks.{all_masks}
use Rattle.system_gen.specs.Generated.{known_of, masks_of, mask_of, resolved_task, resolved_alarm, program_for, system_with}
use Rattle.system_gen.proofs.FaultLemmas.{none_of}
use Rattle.system_gen.proofs.NumberedNames.{AreNamed, number_low, number_below, numbers_below, distinct_numbers, any_number, two_numbers, at_number}
use Rattle.system_gen.proofs.MasksProper.{masks_are_proper}

-- the system of a file and its programs
abbrev pub system_of : Configuration → List Program → System
system_of f programs = system_with (known_of f) f programs

-- ---- no fault

module _ {X : Type 0} where
  -- where no first fails, all pass
  pub none_fails : (test : X → Bool) (fault : X → GenFault) (xs : List X) → first_fault test fault xs ≡ None → list_all test xs ≡ true
  none_fails test fault [] e = refl
  none_fails test fault (x ∷ xs) e = go (test x) refl e (λ h. none_fails test fault xs h)
    where
      go : (b : Bool) → test x ≡ b → (if b then first_fault test fault xs else Some (fault x)) ≡ None
          → (first_fault test fault xs ≡ None → list_all test xs ≡ true) → list_all test (x ∷ xs) ≡ true
      go true f g more = and_from _ _ f (more g)
      go false f g more = absurd cc

  -- where there is no first fault, none has one
  pub none_has_fault : (fault : X → Option GenFault) (xs : List X) → first_of fault xs ≡ None → AllByRecursion (λ x. fault x ≡ None) xs
  none_has_fault fault [] e = tt
  none_has_fault fault (x ∷ xs) e =
      let parts = none_of _ _ e in
      (parts.0, none_has_fault fault xs parts.1)

pub known_name : (names : List (List ℕ)) (name : List ℕ) → unknown names name ≡ None → is_named name names ≡ true
known_name names name e = go (is_named name names) refl e
  where
    go : (b : Bool) → is_named name names ≡ b → (if b then None else Some (GenFault.UnknownName name)) ≡ None → is_named name names ≡ true
    go true f g = f
    go false f g = absurd cc

pub known_names : (names some : List (List ℕ)) → unknown_in names some ≡ None → AreNamed names some
known_names names [] e = tt
known_names names (name ∷ some) e =
    let parts = none_of _ _ e in
    (known_name names name parts.0, known_names names some parts.1)

-- ---- what an OIL file's reader has checked

-- of a file: its lists of tasks and of what stands by its name
pub record AreChecked (f : Configuration) : Type 0 where
  pub tasks : are_checked_tasks f.tasks ≡ true
  pub resources : are_checked_resources f.resources ≡ true
  pub events : are_checked_events f.events ≡ true
  pub counters : are_checked_counters f.counters ≡ true

pub checked_lists : (f : Configuration) → is_checked f ≡ true → AreChecked f
checked_lists f h =
    let alarms = and_parts _ _ h in
    let counters = and_parts _ _ alarms.0 in
    let events = and_parts _ _ counters.0 in
    let resources = and_parts _ _ events.0 in
    let tasks = and_parts _ _ (and_parts _ _ resources.0).0 in
    record { tasks = tasks.1; resources = resources.1; events = events.1; counters = counters.1 }

-- of a task: what it may have at once, and that it lists no resource twice
pub record IsCheckedTask (t : TaskRecord) : Type 0 where
  pub some : nat_le 1 t.activation ≡ true
  pub few : nat_le t.activation MAX_ACTIVATION ≡ true
  pub resources : are_distinct_names t.resources ≡ true

pub checked_task : (t : TaskRecord) → is_checked_task t ≡ true → IsCheckedTask t
checked_task t h =
    let named = and_parts _ _ (and_parts _ _ (and_parts _ _ h).0).0 in
    let events = and_parts _ _ named.0 in
    let resources = and_parts _ _ events.0 in
    let modes = and_parts _ _ resources.0 in
    let few = and_parts _ _ modes.0 in
    record { some = (and_parts _ _ few.0).1; few = few.1; resources = resources.1 }

-- ---- names that a file declares

and_one : (b : Bool) → (b && true) ≡ b
and_one true = refl
and_one false = refl

module _ (f : Configuration) (programs : List Program) (checked : is_checked f ≡ true) where
  lists : AreChecked f
  lists = checked_lists f checked

  resource_low : (name : List ℕ) → is_named name (declared_in f).resources ≡ true
      → nat_lt (number (declared_in f).resources name) (length (system_of f programs).resources) ≡ true
  resource_low name h =
      ap (nat_lt (number (declared_in f).resources name)) (length-map f.resources (λ r. r.property) ∙ sym (length-map f.resources (λ r. r.name)))
      ∙ number_below (declared_in f).resources name h

  resource_internal : (name : List ℕ) → is_named name (declared_in f).resources ≡ true
      → is_internal (system_of f programs) (number (declared_in f).resources name) ≡ checks.is_internal f.resources name
  resource_internal name h =
      sym (at_number (λ r. r.name) (λ r. r.property) Property.Standard name (is_internal_named name) is_internal_property
      mine (λ r e. and_right _ _ e) f.resources (and_parts _ _ (and_parts _ _ lists.resources).1).1 h)
    where
      mine : (r : ResourceRecord) → bytes_eq r.name name ≡ true → is_internal_named name r ≡ is_internal_property r.property
      mine r e = ap (λ b. is_internal_property r.property && b) e ∙ and_one (is_internal_property r.property)

  -- the number of a resource is low enough, and the resource internal by its number where it is by its name
  pub resource_number : (name : List ℕ) → is_named name (declared_in f).resources ≡ true
      → (nat_lt (number (declared_in f).resources name) (length (system_of f programs).resources) ≡ true)
      × (is_internal (system_of f programs) (number (declared_in f).resources name) ≡ checks.is_internal f.resources name)
  resource_number name h = (resource_low name h, resource_internal name h)

  pub alarm_number : (name : List ℕ) → is_named name (declared_in f).alarms ≡ true
      → nat_lt (number (declared_in f).alarms name) (length (system_of f programs).alarms) ≡ true
  alarm_number name h =
      ap (nat_lt (number (declared_in f).alarms name)) (length-map f.alarms (resolved_alarm (known_of f)) ∙ sym (length-map f.alarms (λ a. a.name)))
      ∙ number_below (declared_in f).alarms name h

-- ---- masks, counters and tasks

pub masks_length : (f : Configuration) → is_checked f ≡ true → all_masks f.events ≡ Ok (masks_of f.events)
    → length (masks_of f.events) ≡ length f.events
masks_length f checked made = (masks_are_proper f.events (masks_of f.events) (checked_lists f checked).events made).size

pub events_proper : (f : Configuration) → is_checked f ≡ true → all_masks f.events ≡ Ok (masks_of f.events)
    → list_all is_proper_mask (masks_of f.events) ≡ true
events_proper f checked made = (masks_are_proper f.events (masks_of f.events) (checked_lists f checked).events made).proper

pub mask_of_proper : (f : Configuration) → is_checked f ≡ true → all_masks f.events ≡ Ok (masks_of f.events)
    → (name : List ℕ) → is_named name (declared_in f).events ≡ true → is_proper_mask (mask_of (known_of f) name) ≡ true
mask_of_proper f checked made name h =
    let all = masks_are_proper f.events (masks_of f.events) (checked_lists f checked).events made in
    let size : length (masks_of f.events) ≡ length (declared_in f).events = all.size ∙ sym (length-map f.events (λ e. e.name)) in
    let low : number (declared_in f).events name < length (masks_of f.events) =
    subst (λ n. number (declared_in f).events name < n) (sym size) (number_low (declared_in f).events name h) in
    all_at is_proper_mask (masks_of f.events) (number (declared_in f).events name) 0 low all.proper

masks_listed : (f : Configuration) → ((name : List ℕ) → is_named name (declared_in f).events ≡ true → is_proper_mask (mask_of (known_of f) name) ≡ true)
    → (names : List (List ℕ)) → AreNamed (declared_in f).events names → list_all is_proper_mask (map (mask_of (known_of f)) names) ≡ true
masks_listed f each [] named = refl
masks_listed f each (name ∷ names) named = and_from _ _ (each name named.0) (masks_listed f each names named.1)

one_activation : {X : Type 0} (g : X → ℕ) (events : List X) (n : ℕ) → nat_le 1 n ≡ true → (is_empty events || nat_le n 1) ≡ true
    → (is_empty (map g events) || n == 1) ≡ true
one_activation g [] n some h = refl
one_activation g (x ∷ xs) n some h =
    let low : 1 ≤ n = leb-true 1 n some in
    let high : n ≤ 1 = leb-true n 1 h in
    eq-eqb n 1 (omega arith)

-- numbers and names that tell one internal resource alike
single_internal : (S : System) (resources : List ResourceRecord) (g : List ℕ → ℕ) (schedule : Schedule) (names : List (List ℕ))
    → AllByRecursion (λ name. is_internal S (g name) ≡ checks.is_internal resources name) names
    → is_single_internal S schedule (map g names) ≡ checks.is_single_internal resources schedule names
single_internal S resources g Schedule.Full names same = ap not (two_numbers g (is_internal S) (checks.is_internal resources) names same)
single_internal S resources g Schedule.Non names same = ap not (any_number g (is_internal S) (checks.is_internal resources) names same)

all_same : {X : Type 0} (P Q : X → Type 0) → ((x : X) → P x → Q x) → (xs : List X) → AllByRecursion P xs → AllByRecursion Q xs
all_same P Q h [] all = tt
all_same P Q h (x ∷ xs) all = (h x all.0, all_same P Q h xs all.1)

-- what a task lists is known
pub record ListsKnown (f : Configuration) (t : TaskRecord) : Type 0 where
  pub modes : AreNamed (declared_in f).modes t.autostart
  pub resources : AreNamed (declared_in f).resources t.resources
  pub events : AreNamed (declared_in f).events t.events

pub lists_known : (f : Configuration) (t : TaskRecord) → task_reference (declared_in f) t ≡ None → ListsKnown f t
lists_known f t e =
    let modes = none_of _ _ e in
    let rest = none_of _ _ modes.1 in
    record {
      modes = known_names _ _ modes.0;
      resources = known_names _ _ rest.0;
      events = known_names _ _ rest.1;
    }

module _ (f : Configuration) (programs : List Program) (checked : is_checked f ≡ true)
    (made : all_masks f.events ≡ Ok (masks_of f.events)) where
  -- of a task all but its program
  module _ (t : TaskRecord) (task_checked : is_checked_task t ≡ true) (known : task_reference (declared_in f) t ≡ None) where
    known_lists : ListsKnown f t
    known_lists = lists_known f t known

    pub task_activation : has_proper_activation t ≡ true → is_proper_activation t.activation (map (mask_of (known_of f)) t.events) ≡ true
    task_activation h =
        let parts = checked_task t task_checked in
        and_from _ _ (and_from _ _ parts.some parts.few) (one_activation (mask_of (known_of f)) t.events t.activation parts.some h)

    pub task_masks : list_all is_proper_mask (map (mask_of (known_of f)) t.events) ≡ true
    task_masks = masks_listed f (mask_of_proper f checked made) t.events known_lists.events

    pub task_modes : modes_exist (system_of f programs) (map (number (declared_in f).modes) t.autostart) ≡ true
    task_modes = numbers_below (declared_in f).modes t.autostart (length f.app_modes) refl known_lists.modes

    pub task_resources : has_proper_resources f.resources t ≡ true
        → are_proper_resources (system_of f programs) t.schedule (map (number (declared_in f).resources) t.resources) ≡ true
    task_resources h =
        let size : length (declared_in f).resources ≡ length (system_of f programs).resources =
        length-map f.resources (λ r. r.name) ∙ sym (length-map f.resources (λ r. r.property)) in
        let low = numbers_below (declared_in f).resources t.resources (length (system_of f programs).resources) size known_lists.resources in
        let distinct = distinct_numbers (declared_in f).resources t.resources known_lists.resources ∙ (checked_task t task_checked).resources in
        let same = all_same (λ name. is_named name (declared_in f).resources ≡ true)
        (λ name. is_internal (system_of f programs) (number (declared_in f).resources name) ≡ checks.is_internal f.resources name)
        (resource_internal f programs checked) t.resources known_lists.resources in
        let single = single_internal (system_of f programs) f.resources (number (declared_in f).resources) t.schedule t.resources same ∙ h in
        and_from _ _ (and_from _ _ low distinct) single

    pub task_proper : has_proper_activation t ≡ true → has_proper_resources f.resources t ≡ true
        → is_proper_program (system_of f programs) false (resolved_task (known_of f) programs t).program ≡ true
        → is_proper_task (system_of f programs) (resolved_task (known_of f) programs t) ≡ true
    task_proper activation resources program =
        and_from _ _ (and_from _ _ (and_from _ _ (and_from _ _ (task_activation activation) task_masks) task_modes) (task_resources resources)) program

  each_task : (tasks : List TaskRecord) → list_all is_checked_task tasks ≡ true
      → AllByRecursion (λ t. task_reference (declared_in f) t ≡ None) tasks
      → list_all has_proper_activation tasks ≡ true → list_all (has_proper_resources f.resources) tasks ≡ true
      → AllByRecursion (λ t. is_proper_program (system_of f programs) false (program_for (known_of f) ProgramKind.Task t.name programs) ≡ true) tasks
      → AllByRecursion (λ t. is_proper_task (system_of f programs) (resolved_task (known_of f) programs t) ≡ true) tasks
  each_task [] all known activations resources with_programs = tt
  each_task (t ∷ tasks) all known activations resources with_programs =
      let fine = and_parts _ _ all in
      let activation = and_parts _ _ activations in
      let resource = and_parts _ _ resources in
      let rest = each_task tasks fine.1 known.1 activation.1 resource.1 with_programs.1 in
      (task_proper t fine.0 known.0 activation.0 resource.0 with_programs.0, rest)

  -- each task of the file under its numbers, where its program is proper
  pub tasks_proper : first_of (task_reference (declared_in f)) f.tasks ≡ None → activation_fault f.tasks ≡ None
      → resource_fault f.resources f.tasks ≡ None
      → AllByRecursion (λ t. is_proper_program (system_of f programs) false (program_for (known_of f) ProgramKind.Task t.name programs) ≡ true) f.tasks
      → AllByRecursion (λ t. is_proper_task (system_of f programs) (resolved_task (known_of f) programs t) ≡ true) f.tasks
  tasks_proper known activations resources with_programs =
      each_task f.tasks (and_parts _ _ (checked_lists f checked).tasks).0
      (none_has_fault (task_reference (declared_in f)) f.tasks known)
      (none_fails has_proper_activation _ f.tasks activations)
      (none_fails (has_proper_resources f.resources) _ f.tasks resources) with_programs

  -- ---- counters

  all_from : {X : Type 0} (p q r : X → Bool) → ((x : X) → p x ≡ true → q x ≡ true → r x ≡ true) → (xs : List X)
      → list_all p xs ≡ true → list_all q xs ≡ true → list_all r xs ≡ true
  all_from p q r h [] all every = refl
  all_from p q r h (x ∷ xs) all every =
      let one = and_parts _ _ all in
      let other = and_parts _ _ every in
      and_from _ _ (h x one.0 other.0) (all_from p q r h xs one.1 other.1)

  one_counter : (c : CounterRecord) → is_checked_counter c ≡ true → checks.is_proper_counter c ≡ true → is_proper_counter c.counter ≡ true
  one_counter c numbers values = and_from _ _ values (and_parts _ _ (and_parts _ _ (and_parts _ _ numbers).1).0).1

  pub counters_proper : counter_fault f.counters ≡ None → list_all is_proper_counter (system_of f programs).counters ≡ true
  counters_proper e =
      list_all-map is_proper_counter (λ c. c.counter) f.counters
      ∙ all_from is_checked_counter checks.is_proper_counter (λ c. is_proper_counter c.counter) one_counter f.counters
      (and_parts _ _ (checked_lists f checked).counters).0 (none_fails checks.is_proper_counter _ f.counters e)
