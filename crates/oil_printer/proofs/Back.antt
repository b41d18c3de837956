-- The tree of a file means that file.
use Rattle.std.proofs.Common.{◌≡◌, ℕ, List, [], ◌∷◌, ◌++◌, map, Option, Some, None, Bool, true, false, cond, not, refl, sym, ap, ◌∙◌, append_assoc}
use Rattle.std.specs.Prelude.{codes}
use Rattle.std.specs.Str.{bytes_eq}
use Rattle.std.proofs.lemmas.List.{append-nil, map-append}
use Rattle.osek_base.specs.declared.task.Schedule.{Schedule}
use Rattle.osek_base.specs.declared.task.Schedule.TheVariants as schedule
use Rattle.osek_base.specs.declared.task.Property.{Property}
use Rattle.osek_base.specs.declared.task.Property.TheVariants as property
use Rattle.oil_reader.specs.declared.file.Mask.{Mask}
use Rattle.oil_reader.specs.declared.file.Mask.TheVariants as mask
use Rattle.oil_reader.specs.declared.file.ActionObject.{ActionObject}
use Rattle.oil_reader.specs.declared.file.ActionObject.TheVariants as action
use Rattle.oil_reader.specs.declared.table.AttributeName.{AttributeName}
use Rattle.oil_reader.specs.declared.table.AttributeName.TheVariants.{TaskResource, TaskEvent, StartMode}
use Rattle.oil_reader.specs.Grammar.{Named, Setting, Object}
use Rattle.oil_reader.specs.Table.{word_of}
use Rattle.oil_reader.specs.Configuration.{OsRecord, TaskRecord, IsrRecord, ResourceRecord, EventRecord, CounterRecord, AlarmStartRecord, AlarmRecord, Configuration}
use Rattle.oil_reader.specs.Meaning.{names_in, names_at, os_record, schedule_by, task_record, isr_record, property_by, resource_record, mask_in, event_record, counter_record, alarm_record, with_object, with_objects, configuration_of, no_objects}
use Rattle.oil_printer.specs.Printed.{setting, lines_of, settings_of, switch_word, schedule_word, property_word, mask_value, os_object, mode_object, task_object, isr_object, resource_object, event_object, counter_object, alarm_object, tree_of}

-- ---- values

switch_says : (b : Bool) → bytes_eq (switch_word b) (codes "TRUE") ≡ b
switch_says true = refl
switch_says false = refl

switch_denies : (b : Bool) → not (bytes_eq (switch_word b) (codes "FALSE")) ≡ b
switch_denies true = refl
switch_denies false = refl

schedule_back : (s : Schedule) → schedule_by (bytes_eq (schedule_word s) (codes "NON")) ≡ s
schedule_back schedule.Non = refl
schedule_back schedule.Full = refl

property_back : (p : Property) → property_by (bytes_eq (property_word p) (codes "INTERNAL")) ≡ p
property_back property.Standard = refl
property_back property.Internal = refl

mask_back : (m : Mask) → mask_in (Some (mask_value m)) ≡ m
mask_back mask.Auto = refl
mask_back (mask.Bits n) = refl

-- ---- lists of names

-- names of an attribute of that word
names_same : (p q : AttributeName) → bytes_eq (word_of p) (word_of q) ≡ true → (names : List (List ℕ)) → names_at p (settings_of q names) ≡ names
names_same p q e [] = refl
names_same p q e (name ∷ names) = rw e (ap (λ (ns : List (List ℕ)). name ∷ ns) (names_same p q e names))

-- names of another attribute
names_other : (p q : AttributeName) → bytes_eq (word_of p) (word_of q) ≡ false → (names : List (List ℕ)) → names_at p (settings_of q names) ≡ []
names_other p q e [] = refl
names_other p q e (name ∷ names) = rw e (names_other p q e names)

names_both : (p : AttributeName) (xs ys : List Setting) → names_at p (xs ++ ys) ≡ names_at p xs ++ names_at p ys
names_both p [] ys = refl
names_both p (x ∷ xs) ys =
    let here = cond (bytes_eq (word_of p) x.name) (names_in x.value) [] in
    ap (λ (ns : List (List ℕ)). cond (bytes_eq (word_of p) x.name) (names_in x.value) [] ++ ns) (names_both p xs ys)
    ∙ sym (append_assoc (cond (bytes_eq (word_of p) x.name) (names_in x.value) []) (names_at p xs) (names_at p ys))

pub lines_settings : (p : AttributeName) (names : List (List ℕ)) → map (λ a. a.setting) (lines_of p names) ≡ settings_of p names
lines_settings p [] = refl
lines_settings p (name ∷ names) = ap (λ (xs : List Setting). setting (word_of p) (Named name) ∷ xs) (lines_settings p names)

-- the settings of two list attributes
pub two_lists : (p q : AttributeName) (ms ns : List (List ℕ)) → map (λ a. a.setting) (lines_of p ms ++ lines_of q ns) ≡ settings_of p ms ++ settings_of q ns
two_lists p q ms ns =
    map-append (λ a. a.setting) (lines_of p ms) (lines_of q ns)
    ∙ ap (λ (xs : List Setting). xs ++ map (λ a. a.setting) (lines_of q ns)) (lines_settings p ms)
    ∙ ap (λ (xs : List Setting). settings_of p ms ++ xs) (lines_settings q ns)

resources_back : (resources events : List (List ℕ)) → names_at TaskResource (map (λ a. a.setting) (lines_of TaskResource resources ++ lines_of TaskEvent events)) ≡ resources
resources_back resources events =
    ap (names_at TaskResource) (two_lists TaskResource TaskEvent resources events) ∙ names_both TaskResource (settings_of TaskResource resources) (settings_of TaskEvent events)
    ∙ ap (λ (ns : List (List ℕ)). ns ++ names_at TaskResource (settings_of TaskEvent events)) (names_same TaskResource TaskResource refl resources)
    ∙ ap (λ (ns : List (List ℕ)). resources ++ ns) (names_other TaskResource TaskEvent refl events) ∙ append-nil resources

events_back : (resources events : List (List ℕ)) → names_at TaskEvent (map (λ a. a.setting) (lines_of TaskResource resources ++ lines_of TaskEvent events)) ≡ events
events_back resources events =
    ap (names_at TaskEvent) (two_lists TaskResource TaskEvent resources events) ∙ names_both TaskEvent (settings_of TaskResource resources) (settings_of TaskEvent events)
    ∙ ap (λ (ns : List (List ℕ)). ns ++ names_at TaskEvent (settings_of TaskEvent events)) (names_other TaskEvent TaskResource refl resources)
    ∙ names_same TaskEvent TaskEvent refl events

-- ---- objects

os_back : (o : OsRecord) → os_record (os_object o) ≡ o
os_back o =
    rw (switch_says o.hooks.startup, switch_says o.hooks.error, switch_says o.hooks.shutdown, switch_says o.hooks.pre_task, switch_says o.hooks.post_task, switch_denies o.use_res_scheduler) refl

task_parts_back : (name : List ℕ) (priority : ℕ) (s : Schedule) (activation : ℕ) (autostart resources events : List (List ℕ))
    → let t : TaskRecord = record { name = name; priority = priority; schedule = s; activation = activation; autostart = autostart; resources = resources; events = events } in task_record (task_object t) ≡ t
task_parts_back name priority s activation [] resources events = rw (schedule_back s, resources_back resources events, events_back resources events) refl
task_parts_back name priority s activation (mode ∷ modes) resources events =
    rw (schedule_back s, resources_back resources events, events_back resources events, names_same StartMode StartMode refl modes) refl

task_back : (t : TaskRecord) → task_record (task_object t) ≡ t
task_back t = task_parts_back t.name t.priority t.schedule t.activation t.autostart t.resources t.events

isr_back : (i : IsrRecord) → isr_record (isr_object i) ≡ i
isr_back i = refl

resource_back : (r : ResourceRecord) → resource_record (resource_object r) ≡ r
resource_back r = rw (property_back r.property) refl

event_back : (e : EventRecord) → event_record (event_object e) ≡ e
event_back e = rw (mask_back e.mask) refl

counter_back : (c : CounterRecord) → counter_record (counter_object c) ≡ c
counter_back c = refl

alarm_parts_back : (name counter : List ℕ) (a : ActionObject) (start : Option AlarmStartRecord)
    → let x : AlarmRecord = record { name = name; counter = counter; action = a; autostart = start } in alarm_record (alarm_object x) ≡ x
alarm_parts_back name counter (action.ActivateTask task) None = refl
alarm_parts_back name counter (action.SetEvent task event) None = refl
alarm_parts_back name counter (action.ActivateTask task) (Some s) = rw (names_same StartMode StartMode refl s.app_modes) refl
alarm_parts_back name counter (action.SetEvent task event) (Some s) = rw (names_same StartMode StartMode refl s.app_modes) refl

alarm_back : (a : AlarmRecord) → alarm_record (alarm_object a) ≡ a
alarm_back a = alarm_parts_back a.name a.counter a.action a.autostart

-- ---- a file

-- first the ones, then the others
with_both : (c : Configuration) (os more : List Object) → with_objects c (os ++ more) ≡ with_objects (with_objects c os) more
with_both c [] more = refl
with_both c (o ∷ os) more = with_both (with_object c o) os more

-- objects of one kind join the list of their kind
with_all : {R : Type 0} (put : List R → Configuration) (object : R → Object) → ((xs : List R) (x : R) → with_object (put xs) (object x) ≡ put (xs ++ x ∷ []))
    → (old xs : List R) → with_objects (put old) (map object xs) ≡ put (old ++ xs)
with_all put object one old [] = ap put (sym (append-nil old))
with_all put object one old (x ∷ xs) =
    ap (λ (c : Configuration). with_objects c (map object xs)) (one old x) ∙ with_all put object one (old ++ x ∷ []) xs ∙ ap put (append_assoc old (x ∷ []) xs)

with_modes : (c : Configuration) (xs : List (List ℕ)) → with_objects c (map mode_object xs) ≡ record c { app_modes = c.app_modes ++ xs }
with_modes c xs = with_all (λ (ys : List (List ℕ)). record c { app_modes = ys }) mode_object (λ xs x. refl) c.app_modes xs

with_tasks : (c : Configuration) (xs : List TaskRecord) → with_objects c (map task_object xs) ≡ record c { tasks = c.tasks ++ xs }
with_tasks c xs = with_all (λ (ys : List TaskRecord). record c { tasks = ys }) task_object (λ xs x. ap (λ (y : TaskRecord). record c { tasks = xs ++ y ∷ [] }) (task_back x)) c.tasks xs

with_isrs : (c : Configuration) (xs : List IsrRecord) → with_objects c (map isr_object xs) ≡ record c { routines = c.routines ++ xs }
with_isrs c xs = with_all (λ (ys : List IsrRecord). record c { routines = ys }) isr_object (λ xs x. ap (λ (y : IsrRecord). record c { routines = xs ++ y ∷ [] }) (isr_back x)) c.routines xs

with_resources : (c : Configuration) (xs : List ResourceRecord) → with_objects c (map resource_object xs) ≡ record c { resources = c.resources ++ xs }
with_resources c xs = with_all (λ (ys : List ResourceRecord). record c { resources = ys }) resource_object (λ xs x. ap (λ (y : ResourceRecord). record c { resources = xs ++ y ∷ [] }) (resource_back x)) c.resources xs

with_events : (c : Configuration) (xs : List EventRecord) → with_objects c (map event_object xs) ≡ record c { events = c.events ++ xs }
with_events c xs = with_all (λ (ys : List EventRecord). record c { events = ys }) event_object (λ xs x. ap (λ (y : EventRecord). record c { events = xs ++ y ∷ [] }) (event_back x)) c.events xs

with_counters : (c : Configuration) (xs : List CounterRecord) → with_objects c (map counter_object xs) ≡ record c { counters = c.counters ++ xs }
with_counters c xs = with_all (λ (ys : List CounterRecord). record c { counters = ys }) counter_object (λ xs x. ap (λ (y : CounterRecord). record c { counters = xs ++ y ∷ [] }) (counter_back x)) c.counters xs

with_alarms : (c : Configuration) (xs : List AlarmRecord) → with_objects c (map alarm_object xs) ≡ record c { alarms = c.alarms ++ xs }
with_alarms c xs = with_all (λ (ys : List AlarmRecord). record c { alarms = ys }) alarm_object (λ xs x. ap (λ (y : AlarmRecord). record c { alarms = xs ++ y ∷ [] }) (alarm_back x)) c.alarms xs

-- what the objects of a file say, kind by kind
all_back : (d : Configuration) (modes tasks isrs resources events counters alarms : List Object) →
    with_objects d (modes ++ tasks ++ isrs ++ resources ++ events ++ counters ++ alarms)
    ≡ with_objects (with_objects (with_objects (with_objects (with_objects (with_objects (with_objects d modes) tasks) isrs) resources) events) counters) alarms
all_back d modes tasks isrs resources events counters alarms =
    with_both d (modes ++ tasks ++ isrs ++ resources ++ events ++ counters) alarms
    ∙ ap (λ (e : Configuration). with_objects e alarms) (with_both d (modes ++ tasks ++ isrs ++ resources ++ events) counters
    ∙ ap (λ (e : Configuration). with_objects e counters) (with_both d (modes ++ tasks ++ isrs ++ resources) events
    ∙ ap (λ (e : Configuration). with_objects e events) (with_both d (modes ++ tasks ++ isrs) resources
    ∙ ap (λ (e : Configuration). with_objects e resources) (with_both d (modes ++ tasks) isrs
    ∙ ap (λ (e : Configuration). with_objects e isrs) (with_both d modes tasks)))))

pub configuration_back : (c : Configuration) → configuration_of (tree_of c) ≡ c
configuration_back c =
    let d = no_objects c.cpu c.os in
    let d1 = record d { app_modes = c.app_modes } in
    let d2 = record d1 { tasks = c.tasks } in
    let d3 = record d2 { routines = c.routines } in
    let d4 = record d3 { resources = c.resources } in
    let d5 = record d4 { events = c.events } in
    let d6 = record d5 { counters = c.counters } in
    ap (λ (o : OsRecord). with_objects (no_objects c.cpu o) (map mode_object c.app_modes ++ map task_object c.tasks ++ map isr_object c.routines ++ map resource_object c.resources ++ map event_object c.events ++ map counter_object c.counters ++ map alarm_object c.alarms)) (os_back c.os)
    ∙ all_back d (map mode_object c.app_modes) (map task_object c.tasks) (map isr_object c.routines) (map resource_object c.resources) (map event_object c.events) (map counter_object c.counters) (map alarm_object c.alarms)
    ∙ rw (with_modes d c.app_modes, with_tasks d1 c.tasks, with_isrs d2 c.routines, with_resources d3 c.resources, with_events d4 c.events, with_counters d5 c.counters, with_alarms d6 c.alarms) refl
