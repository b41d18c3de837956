-- A generated system is within the limits, named throughout, and its names are proper; its tasks stand by falling priority, each at the number of its name.
use Rattle.std.proofs.Common.{◌≡◌, ℕ, suc, ◌<◌, ◌≤◌, Bool, true, not, ◌&&◌, ltb, List, [], ◌∷◌, length, map, Some, None, refl, sym, ap, ◌∙◌, arith, inl, inr}
use Rattle.std.specs.Prelude.{slice_get}
use Rattle.std.specs.List.{list_all, list_any, AllByRecursion}
use Rattle.std.specs.Str.{bytes_eq}
use Rattle.std.proofs.lemmas.Bool.{and_parts, or_cases, ltb-false, le-leb, eq-eqb}
use Rattle.std.proofs.lemmas.List.{length-map}
use Rattle.osek_base.specs.declared.limits.TheConstants.{MAX_MODES, MAX_TASKS, MAX_TASK_PRIORITY, MAX_ROUTINES, MAX_RESOURCES, MAX_EVENTS, MAX_COUNTERS, MAX_ALARMS}
use Rattle.osek_base.specs.Lists.{is_empty}
use Rattle.osek_base.specs.Names.{is_named}
use Rattle.osek_base.specs.Proper.{is_within_limits, is_named_throughout, has_proper_names, are_proper_names, are_falling}
use Rattle.osek_base.specs.System.{Task, mode_count, is_extended}
use Rattle.oil_reader.specs.Checked.{is_checked, is_object_name, is_checked_isr, is_checked_resource, is_checked_event, is_checked_alarm, are_checked_modes}
use Rattle.oil_reader.specs.declared.syntax.Kind.TheVariants as kind
use Rattle.oil_reader.specs.Configuration.{Configuration, TaskRecord}
use Rattle.oil_reader.proofs.CheckedParts.{checked_parts}
use Rattle.task_asm.specs.Programs.{Program}
use Rattle.system_gen.specs.Checks.{beyond_limit, is_extended_named}
use Rattle.system_gen.specs.ObjectNames.{names_of, order_of, task_name}
use Rattle.system_gen.specs.DeclaredNames.{declared_in, number}
use Rattle.system_gen.specs.Generated.{known_of, masks_of, mask_of, resolved_task, resolved_routine, resolved_alarm, task_declared}
use Rattle.system_gen.proofs.LimitLemmas.{split_limit}
use Rattle.system_gen.proofs.OrderLemmas.{order_short}
use Rattle.system_gen.proofs.NumberedNames.{equal_names, number_below}
use Rattle.system_gen.proofs.ObjectsProper.{system_of}
use Rattle.system_gen.proofs.TasksDeclared.{numbered_proper, tasks_fall, each_of_all, task_at_number}

-- ---- limits and lengths

all_eight : (a b c d e f g h : Bool) → a ≡ true → b ≡ true → c ≡ true → d ≡ true → e ≡ true → f ≡ true → g ≡ true → h ≡ true
    → (a && b && c && d && e && f && g && h) ≡ true
all_eight a b c d e f g h ta tb tc td te tf tg th = rw (ta, tb, tc, td, te, tf, tg, th) refl

all_five : (a b c d e : Bool) → a ≡ true → b ≡ true → c ≡ true → d ≡ true → e ≡ true → (a && b && c && d && e) ≡ true
all_five a b c d e ta tb tc td te = rw (ta, tb, tc, td, te) refl

all_six : (a b c d e f : Bool) → a ≡ true → b ≡ true → c ≡ true → d ≡ true → e ≡ true → f ≡ true → (a && b && c && d && e && f) ≡ true
all_six a b c d e f ta tb tc td te tf = rw (ta, tb, tc, td, te, tf) refl

some_length : {X : Type 0} (xs : List X) → not (is_empty xs) ≡ true → 1 ≤ length xs
some_length [] h = absurd cc
some_length (x ∷ xs) h = omega arith

some_mode : (modes : List (List ℕ)) → are_checked_modes modes ≡ true → 1 ≤ length modes
some_mode modes h =
    let parts = and_parts (not (is_empty modes) && list_all (is_object_name kind.AppMode) modes) (are_proper_names modes) h in
    some_length modes (and_parts (not (is_empty modes)) (list_all (is_object_name kind.AppMode) modes) parts.0).0

module _ (f : Configuration) (programs : List Program) where
  -- no more objects than allowed, and one mode at least
  pub within : beyond_limit f ≡ None → is_checked f ≡ true → length (masks_of f.events) ≡ length f.events → is_within_limits (system_of f programs) ≡ true
  within e checked masks =
      let modes = split_limit _ _ _ e in
      let tasks = split_limit _ _ _ modes.1 in
      let routines = split_limit _ _ _ tasks.1 in
      let resources = split_limit _ _ _ routines.1 in
      let events = split_limit _ _ _ resources.1 in
      let counters = split_limit _ _ _ events.1 in
      let alarms = split_limit _ _ _ counters.1 in
      let max_modes : length f.app_modes ≤ MAX_MODES = ltb-false MAX_MODES (length f.app_modes) modes.0 in
      let max_tasks : length f.tasks ≤ MAX_TASKS = ltb-false MAX_TASKS (length f.tasks) tasks.0 in
      let max_routines : length f.routines ≤ MAX_ROUTINES = ltb-false MAX_ROUTINES (length f.routines) routines.0 in
      let max_resources : length f.resources ≤ MAX_RESOURCES = ltb-false MAX_RESOURCES (length f.resources) resources.0 in
      let max_events : length f.events ≤ MAX_EVENTS = ltb-false MAX_EVENTS (length f.events) events.0 in
      let max_counters : length f.counters ≤ MAX_COUNTERS = ltb-false MAX_COUNTERS (length f.counters) counters.0 in
      let max_alarms : length f.alarms ≤ MAX_ALARMS = ltb-false MAX_ALARMS (length f.alarms) alarms.0 in
      let mode = some_mode f.app_modes (checked_parts f checked).app_modes in
      let S = system_of f programs in
      all_eight _ _ _ _ _ _ _ _
      (le-leb (length S.tasks) MAX_TASKS (omega (arith, max_tasks, length-map (order_of f.tasks) (task_declared (known_of f) programs f.tasks), order_short (map (λ t. t.priority) f.tasks), length-map f.tasks (λ t. t.priority))))
      (le-leb (length S.routines) MAX_ROUTINES (omega (arith, max_routines, length-map f.routines (resolved_routine (known_of f) programs))))
      (le-leb (length S.resources) MAX_RESOURCES (omega (arith, max_resources, length-map f.resources (λ r. r.property))))
      (le-leb (length S.events) MAX_EVENTS (omega (arith, max_events, masks)))
      (le-leb (length S.counters) MAX_COUNTERS (omega (arith, max_counters, length-map f.counters (λ c. c.counter))))
      (le-leb (length S.alarms) MAX_ALARMS (omega (arith, max_alarms, length-map f.alarms (resolved_alarm (known_of f)))))
      (le-leb 1 (mode_count S) mode)
      (le-leb (mode_count S) MAX_MODES max_modes)

  -- each object has a name
  pub named : length (masks_of f.events) ≡ length f.events → is_named_throughout (system_of f programs) ≡ true
  named masks =
      let S = system_of f programs in
      all_five _ _ _ _ _
      (eq-eqb (length S.names.tasks) (length S.tasks) (length-map (order_of f.tasks) (task_name f.tasks) ∙ sym (length-map (order_of f.tasks) (task_declared (known_of f) programs f.tasks))))
      (eq-eqb (length S.names.routines) (length S.routines) (length-map f.routines (λ o. o.name) ∙ sym (length-map f.routines (resolved_routine (known_of f) programs))))
      (eq-eqb (length S.names.resources) (length S.resources) (length-map f.resources (λ o. o.name) ∙ sym (length-map f.resources (λ r. r.property))))
      (eq-eqb (length S.names.events) (length S.events) (length-map f.events (λ o. o.name) ∙ sym masks))
      (eq-eqb (length S.names.alarms) (length S.alarms) (length-map f.alarms (λ o. o.name) ∙ sym (length-map f.alarms (resolved_alarm (known_of f)))))

  -- tasks stand by falling priority
  pub falling : are_falling MAX_TASK_PRIORITY (system_of f programs).tasks ≡ true
  falling = tasks_fall f.tasks (known_of f) programs

  -- as many tasks as names of tasks
  pub tasks_named : length (system_of f programs).tasks ≡ length (declared_in f).tasks
  tasks_named = length-map (order_of f.tasks) (task_declared (known_of f) programs f.tasks) ∙ sym (length-map (order_of f.tasks) (task_name f.tasks))

  -- the number of a task's name is that of a task
  pub task_number : (name : List ℕ) → is_named name (declared_in f).tasks ≡ true → ltb (number (declared_in f).tasks name) (length (system_of f programs).tasks) ≡ true
  task_number name h = rw tasks_named (number_below (declared_in f).tasks name h)

  -- where it is known of all
  pub each_task_of_all : (test : Task → Bool) → AllByRecursion (λ t. test (resolved_task (known_of f) programs t) ≡ true) f.tasks
      → list_all test (system_of f programs).tasks ≡ true
  each_task_of_all test h = each_of_all f.tasks (known_of f) programs test h

-- ---- names

-- the names of a file's objects are proper
pub names_proper : (f : Configuration) → is_checked f ≡ true → has_proper_names (names_of f) ≡ true
names_proper f checked =
    let parts = checked_parts f checked in
    let names = names_of f in
    all_six _ _ _ _ _ _
    (numbered_proper f.tasks parts.tasks)
    (and_parts (list_all is_checked_isr f.routines) (are_proper_names names.routines) parts.routines).1
    (and_parts (list_all is_checked_resource f.resources) (are_proper_names names.resources) parts.resources).1
    (and_parts (list_all is_checked_event f.events) (are_proper_names names.events) parts.events).1
    (and_parts (list_all is_checked_alarm f.alarms) (are_proper_names names.alarms) parts.alarms).1
    (and_parts (not (is_empty f.app_modes) && list_all (is_object_name kind.AppMode) f.app_modes) (are_proper_names f.app_modes) parts.app_modes).1

-- ---- extended tasks

-- a place of a record that passes a test
record Found (test : TaskRecord → Bool) (tasks : List TaskRecord) : Type 0 where
  pub at : ℕ
  pub here : TaskRecord
  pub low : at < length tasks
  pub is : slice_get tasks at ≡ Some here
  pub passes : test here ≡ true

found : (test : TaskRecord → Bool) (tasks : List TaskRecord) → list_any test tasks ≡ true → Found test tasks
found test [] h = absurd cc
found test (t ∷ tasks) h =
    elim (or_cases (test t) (list_any test tasks) h) [
      | inl here ↦ record { at = 0; here = t; low = omega arith; is = refl; passes = here }
      | inr there ↦
          (let more = found test tasks there in
          record { at = suc more.at; here = more.here; low = omega (arith, more.low); is = more.is; passes = more.passes })
    ]

empty_map : {X Y : Type 0} (g : X → Y) (xs : List X) → is_empty (map g xs) ≡ is_empty xs
empty_map g [] = refl
empty_map g (x ∷ xs) = refl

-- the task of an extended record's name is extended
pub extended_task : (f : Configuration) (programs : List Program) → is_checked f ≡ true → (name : List ℕ) → list_any (is_extended_named name) f.tasks ≡ true
    → is_extended (system_of f programs) (number (declared_in f).tasks name) ≡ true
extended_task f programs checked name h =
    let x = found (is_extended_named name) f.tasks h in
    let t = x.here in
    let both = and_parts (bytes_eq t.name name) (not (is_empty t.events)) x.passes in
    let same : t.name ≡ name = equal_names t.name name both.0 in
    let there = task_at_number f.tasks (known_of f) programs (checked_parts f checked).tasks x.at t x.is x.low in
    ap (λ (m : List ℕ). is_extended (system_of f programs) (number (declared_in f).tasks m)) (sym same)
    ∙ ap (λ (a : Task). not (is_empty a.events)) there
    ∙ ap not (empty_map (mask_of (known_of f)) t.events)
    ∙ both.1
