-- The tasks and alarms of a file that was checked are printed as tokens, and have no fault.
use Rattle.std.proofs.Common.{◌≡◌, ℕ, List, [], ◌∷◌, ◌++◌, map, Option, Some, None, true, false, not, leb, refl, ◌∙◌, arith}
use Rattle.std.specs.List.{list_all, list_any}
use Rattle.std.specs.Str.{bytes_eq}
use Rattle.std.proofs.Math.Dec.{leb-zero}
use Rattle.std.proofs.lemmas.List.Folds.{list_all-append}
use Rattle.osek_base.specs.declared.limits.TheConstants.{MAX_TASK_PRIORITY, MAX_ACTIVATION}
use Rattle.osek_base.specs.Lists.{is_empty}
use Rattle.osek_base.specs.Names.{are_distinct_names}
use Rattle.osek_base.specs.declared.task.Schedule.{Schedule}
use Rattle.oil_reader.specs.declared.file.ActionObject.{ActionObject}
use Rattle.oil_reader.specs.declared.file.ActionObject.TheVariants as action
use Rattle.oil_reader.specs.declared.syntax.Kind.TheVariants as kind
use Rattle.oil_reader.specs.declared.table.AttributeName.{AttributeName}
use Rattle.oil_reader.specs.declared.table.AttributeName.TheVariants.{TaskPriority, Schedule as ScheduleName, Activation, TaskResource, TaskEvent, StartMode, AlarmTime, CycleTime}
use Rattle.oil_reader.specs.Grammar.{Named, Numeric, Setting}
use Rattle.oil_reader.specs.Table.{word_of, attributes_of, is_one_of}
use Rattle.oil_reader.specs.Attributes.{attribute_named, reserved}
use Rattle.oil_reader.specs.Checked.{is_name, are_names, is_object_name, is_number, is_checked_task, is_checked_start, is_checked_action, is_checked_alarm}
use Rattle.oil_reader.specs.Configuration.{TaskRecord, AlarmStartRecord, AlarmRecord}
use Rattle.oil_printer.specs.Printed.{setting, line, lines_of, settings_of, schedule_word, task_start, task_object, action_line, start_settings, alarm_start, alarm_object}
use Rattle.oil_printer.proofs.Back.{two_lists}
use Rattle.oil_printer.proofs.Spelled.{may_print_setting, may_print_attribute, may_print_object}
use Rattle.oil_printer.proofs.Faultless.{all_apart, is_right, repeats, are_right, is_scope_right, is_block_right, is_object_right}
use Rattle.oil_printer.proofs.CheckedObjects.{IsFit, number_below, schedule_name, schedule_right, all_true, any_false, any_both, apart_both, apart_names}
use Rattle.std.proofs.lemmas.Bool.{and_parts}

-- ---- lists of names

-- settings of a list attribute are printed
settings_print : (p : AttributeName) → is_name (word_of p) ≡ true → (names : List (List ℕ)) → are_names names ≡ true → list_all may_print_setting (settings_of p names) ≡ true
settings_print p e [] h = refl
settings_print p e (name ∷ names) h =
    let t = and_parts (is_name name) (are_names names) h in
    rw (e, t.0) (settings_print p e names t.1)

lines_print : (p : AttributeName) → is_name (word_of p) ≡ true → (names : List (List ℕ)) → are_names names ≡ true → list_all may_print_attribute (lines_of p names) ≡ true
lines_print p e [] h = refl
lines_print p e (name ∷ names) h =
    let t = and_parts (is_name name) (are_names names) h in
    rw (e, t.0) (lines_print p e names t.1)

-- the block of modes has no fault
modes_right : (mode : List ℕ) (modes : List (List ℕ)) → are_distinct_names (mode ∷ modes) ≡ true → is_scope_right (StartMode ∷ []) (settings_of StartMode (mode ∷ modes)) ≡ true
modes_right mode modes h =
    rw (
      all_true (λ name. setting (word_of StartMode) (Named name)) (λ x. is_right (attribute_named (StartMode ∷ []) x.name) x.value) (λ name. refl) modes,
      apart_names (repeats (StartMode ∷ [])) (λ name. setting (word_of StartMode) (Named name)) (λ m n. refl) (mode ∷ modes) h,
    ) refl

-- ---- a task's resources and events

abbrev allowed : List AttributeName
allowed = attributes_of kind.Task

abbrev resource_setting : List ℕ → Setting
resource_setting name = setting (word_of TaskResource) (Named name)

abbrev event_setting : List ℕ → Setting
event_setting name = setting (word_of TaskEvent) (Named name)

-- the settings of and_parts lists
abbrev tail : List (List ℕ) → List (List ℕ) → List Setting
tail resources events = map resource_setting resources ++ map event_setting events

tail_right : (resources events : List (List ℕ)) → are_right allowed (tail resources events) ≡ true
tail_right resources events =
    list_all-append (λ x. is_right (attribute_named allowed x.name) x.value) (map resource_setting resources) (map event_setting events)
    ∙ rw (all_true resource_setting (λ x. is_right (attribute_named allowed x.name) x.value) (λ name. refl) resources) (all_true event_setting (λ x. is_right (attribute_named allowed x.name) x.value) (λ name. refl) events)

-- none of and_parts lists repeats a setting that is neither
none_behind : (x : Setting) (resources events : List (List ℕ)) → bytes_eq x.name (word_of TaskResource) ≡ false → bytes_eq x.name (word_of TaskEvent) ≡ false → list_any (repeats allowed x) (tail resources events) ≡ false
none_behind x resources events no_resource no_event =
    any_both (repeats allowed x) (map resource_setting resources) (map event_setting events)
    ∙ rw (any_false resource_setting (repeats allowed x) (λ name. rw no_resource refl) resources) (any_false event_setting (repeats allowed x) (λ name. rw no_event refl) events)

tail_apart : (resources events : List (List ℕ)) → are_distinct_names resources ≡ true → are_distinct_names events ≡ true → all_apart (repeats allowed) (tail resources events) ≡ true
tail_apart resources events h k =
    apart_both (repeats allowed) (map resource_setting resources) (map event_setting events)
    (apart_names (repeats allowed) resource_setting (λ m n. refl) resources h) (apart_names (repeats allowed) event_setting (λ m n. refl) events k)
    (all_true resource_setting (λ x. not (list_any (repeats allowed x) (map event_setting events)))
    (λ name. rw (any_false event_setting (repeats allowed (resource_setting name)) (λ other. refl) events) refl) resources)

lines_right : (resources events : List (List ℕ)) → list_all (is_block_right allowed) (lines_of TaskResource resources ++ lines_of TaskEvent events) ≡ true
lines_right resources events =
    list_all-append (is_block_right allowed) (lines_of TaskResource resources) (lines_of TaskEvent events)
    ∙ rw (all_true (λ name. line (word_of TaskResource) (Named name)) (is_block_right allowed) (λ name. refl) resources) (all_true (λ name. line (word_of TaskEvent) (Named name)) (is_block_right allowed) (λ name. refl) events)

-- ---- a task

-- what a checked task has
record HasTask (t : TaskRecord) : Type 0 where
  name : is_name t.name ≡ true
  free : not (is_one_of (reserved kind.Task) t.name) ≡ true
  priority : leb t.priority MAX_TASK_PRIORITY ≡ true
  some : leb 1 t.activation ≡ true
  few : leb t.activation MAX_ACTIVATION ≡ true
  modes : are_distinct_names t.autostart ≡ true
  resources : are_distinct_names t.resources ≡ true
  events : are_distinct_names t.events ≡ true
  mode_names : are_names t.autostart ≡ true
  resource_names : are_names t.resources ≡ true
  event_names : are_names t.events ≡ true

has_task : (t : TaskRecord) → is_checked_task t ≡ true → HasTask t
has_task t h =
    let h1 = and_parts _ (are_names t.events) h in
    let h2 = and_parts _ (are_names t.resources) h1.0 in
    let h3 = and_parts _ (are_names t.autostart) h2.0 in
    let h4 = and_parts _ (are_distinct_names t.events) h3.0 in
    let h5 = and_parts _ (are_distinct_names t.resources) h4.0 in
    let h6 = and_parts _ (are_distinct_names t.autostart) h5.0 in
    let h7 = and_parts _ (leb t.activation MAX_ACTIVATION) h6.0 in
    let h8 = and_parts _ (leb 1 t.activation) h7.0 in
    let h9 = and_parts _ (leb t.priority MAX_TASK_PRIORITY) h8.0 in
    let n = and_parts (is_name t.name) (not (is_one_of (reserved kind.Task) t.name)) h9.0 in
    record {
      name = n.0;
      free = n.1;
      priority = h9.1;
      some = h8.1;
      few = h7.1;
      modes = h6.1;
      resources = h5.1;
      events = h4.1;
      mode_names = h3.1;
      resource_names = h2.1;
      event_names = h1.1;
    }

start_prints : (modes : List (List ℕ)) → are_names modes ≡ true → may_print_attribute (task_start modes) ≡ true
start_prints [] h = refl
start_prints (mode ∷ modes) h = settings_print StartMode refl (mode ∷ modes) h

task_prints : (t : TaskRecord) → HasTask t → may_print_object (task_object t) ≡ true
task_prints t h =
    rw (
      h.name,
      number_below t.priority MAX_TASK_PRIORITY (omega arith) h.priority,
      schedule_name t.schedule,
      number_below t.activation MAX_ACTIVATION (omega arith) h.few,
      start_prints t.autostart h.mode_names,
      list_all-append may_print_attribute (lines_of TaskResource t.resources) (lines_of TaskEvent t.events),
      lines_print TaskResource refl t.resources h.resource_names,
      lines_print TaskEvent refl t.events h.event_names,
    ) refl

task_right : (name : List ℕ) (priority : ℕ) (s : Schedule) (activation : ℕ) (autostart resources events : List (List ℕ))
    → let t : TaskRecord = record { name = name; priority = priority; schedule = s; activation = activation; autostart = autostart; resources = resources; events = events } in HasTask t → is_object_right (task_object t) ≡ true
task_right name priority s activation [] resources events h =
    rw (
      two_lists TaskResource TaskEvent resources events,
      leb-zero priority,
      h.priority,
      schedule_right s,
      h.some,
      h.few,
      tail_right resources events,
      none_behind (setting (word_of TaskPriority) (Numeric priority)) resources events refl refl,
      none_behind (setting (word_of ScheduleName) (Named (schedule_word s))) resources events refl refl,
      none_behind (setting (word_of Activation) (Numeric activation)) resources events refl refl,
      none_behind (task_start []).setting resources events refl refl,
      tail_apart resources events h.resources h.events,
      lines_right resources events,
      h.free,
    ) refl
task_right name priority s activation (mode ∷ modes) resources events h =
    rw (
      two_lists TaskResource TaskEvent resources events,
      leb-zero priority,
      h.priority,
      schedule_right s,
      h.some,
      h.few,
      tail_right resources events,
      none_behind (setting (word_of TaskPriority) (Numeric priority)) resources events refl refl,
      none_behind (setting (word_of ScheduleName) (Named (schedule_word s))) resources events refl refl,
      none_behind (setting (word_of Activation) (Numeric activation)) resources events refl refl,
      none_behind (task_start (mode ∷ modes)).setting resources events refl refl,
      tail_apart resources events h.resources h.events,
      modes_right mode modes h.modes,
      lines_right resources events,
      h.free,
    ) refl

pub task_fit : (t : TaskRecord) → is_checked_task t ≡ true → IsFit (task_object t)
task_fit t h =
    let k = has_task t h in
    record { prints = task_prints t k; right = task_right t.name t.priority t.schedule t.activation t.autostart t.resources t.events k }

-- ---- an alarm

-- the block of an alarm that starts by itself has no fault
start_right : (time cycle : ℕ) (mode : List ℕ) (modes : List (List ℕ)) → are_distinct_names (mode ∷ modes) ≡ true
    → is_scope_right (AlarmTime ∷ CycleTime ∷ StartMode ∷ []) (start_settings (record { alarm_time = time; cycle_time = cycle; app_modes = mode ∷ modes })) ≡ true
start_right time cycle mode modes h =
    let all = AlarmTime ∷ CycleTime ∷ StartMode ∷ [] in
    rw (
      all_true (λ name. setting (word_of StartMode) (Named name)) (λ x. is_right (attribute_named all x.name) x.value) (λ name. refl) modes,
      any_false (λ name. setting (word_of StartMode) (Named name)) (repeats all (setting (word_of AlarmTime) (Numeric time))) (λ name. refl) modes,
      any_false (λ name. setting (word_of StartMode) (Named name)) (repeats all (setting (word_of CycleTime) (Numeric cycle))) (λ name. refl) modes,
      apart_names (repeats all) (λ name. setting (word_of StartMode) (Named name)) (λ m n. refl) (mode ∷ modes) h,
    ) refl

-- what a checked start has
record HasStart (s : AlarmStartRecord) : Type 0 where
  some : not (is_empty s.app_modes) ≡ true
  distinct : are_distinct_names s.app_modes ≡ true
  names : are_names s.app_modes ≡ true
  time : is_number s.alarm_time ≡ true
  cycle : is_number s.cycle_time ≡ true

has_start : (s : AlarmStartRecord) → is_checked_start (Some s) ≡ true → HasStart s
has_start s h =
    let h1 = and_parts _ (is_number s.cycle_time) h in
    let h2 = and_parts _ (is_number s.alarm_time) h1.0 in
    let h3 = and_parts _ (are_names s.app_modes) h2.0 in
    let h4 = and_parts (not (is_empty s.app_modes)) (are_distinct_names s.app_modes) h3.0 in
    record { some = h4.0; distinct = h4.1; names = h3.1; time = h2.1; cycle = h1.1 }

alarm_start_prints : (start : Option AlarmStartRecord) → is_checked_start start ≡ true → may_print_attribute (alarm_start start) ≡ true
alarm_start_prints None h = refl
alarm_start_prints (Some s) h =
    let k = has_start s h in
    rw (k.time, k.cycle, settings_print StartMode refl s.app_modes k.names) refl

action_prints : (a : ActionObject) → is_checked_action a ≡ true → may_print_attribute (action_line a) ≡ true
action_prints (action.ActivateTask task) h = rw h refl
action_prints (action.SetEvent task event) h = let t = and_parts (is_name task) (is_name event) h in rw (t.0, t.1) refl

modes_start : (a : ActionObject) (name counter : List ℕ) (time cycle : ℕ) (modes : List (List ℕ)) → not (is_one_of (reserved kind.Alarm) name) ≡ true
    → not (is_empty modes) ≡ true → are_distinct_names modes ≡ true
    → is_object_right (alarm_object (record { name = name; counter = counter; action = a; autostart = Some (record { alarm_time = time; cycle_time = cycle; app_modes = modes }) })) ≡ true
modes_start a name counter time cycle [] free some distinct = absurd cc
modes_start (action.ActivateTask task) name counter time cycle (mode ∷ modes) free some distinct = rw (start_right time cycle mode modes distinct, free) refl
modes_start (action.SetEvent task event) name counter time cycle (mode ∷ modes) free some distinct = rw (start_right time cycle mode modes distinct, free) refl

alarm_right : (name counter : List ℕ) (a : ActionObject) (start : Option AlarmStartRecord) → not (is_one_of (reserved kind.Alarm) name) ≡ true → is_checked_start start ≡ true
    → is_object_right (alarm_object (record { name = name; counter = counter; action = a; autostart = start })) ≡ true
alarm_right name counter (action.ActivateTask task) None free h = free
alarm_right name counter (action.SetEvent task event) None free h = free
alarm_right name counter a (Some s) free h = let k = has_start s h in modes_start a name counter s.alarm_time s.cycle_time s.app_modes free k.some k.distinct

pub alarm_fit : (a : AlarmRecord) → is_checked_alarm a ≡ true → IsFit (alarm_object a)
alarm_fit a h =
    let h1 = and_parts _ (is_checked_start a.autostart) h in
    let h2 = and_parts _ (is_checked_action a.action) h1.0 in
    let h3 = and_parts (is_object_name kind.Alarm a.name) (is_name a.counter) h2.0 in
    let n = and_parts (is_name a.name) (not (is_one_of (reserved kind.Alarm) a.name)) h3.0 in
    record {
      prints = rw (n.0, h3.1, action_prints a.action h2.1, alarm_start_prints a.autostart h1.1) refl;
      right = alarm_right a.name a.counter a.action a.autostart n.1 h1.1;
    }
