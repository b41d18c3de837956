-- Places change neither what a tree means nor whether it has a fault.
use Rattle.std.proofs.Common.{◌≡◌, ℕ, List, [], ◌∷◌, ◌++◌, map, option_map, Option, Some, None, Bool, true, false, cond, not, ◌&&◌, ◌||◌, refl, ap, ◌∙◌}
use Rattle.std.specs.List.{list_all, list_any}
use Rattle.std.specs.Str.{bytes_eq}
use Rattle.oil_reader.specs.declared.syntax.Kind.{Kind}
use Rattle.oil_reader.specs.declared.syntax.Kind.TheVariants as kind
use Rattle.oil_reader.specs.declared.table.AttributeName.{AttributeName}
use Rattle.oil_reader.specs.declared.table.AttributeName.TheVariants.{StartupHook, ErrorHook, ShutdownHook, PreTaskHook, PostTaskHook, UseResScheduler, TaskPriority, Schedule, Activation, TaskAutostart, TaskResource, TaskEvent, IsrPriority, ResourceProperty, EventMask, MaxAllowedValue, TicksPerBase, MinCycle, AlarmCounter, AlarmAction, AlarmAutostart, ActionTask, ActionEvent, AlarmTime, CycleTime, StartMode}
use Rattle.oil_reader.specs.Grammar.{Value, Setting, Block, Attribute, Object, File}
use Rattle.oil_reader.specs.Table.{word_of, presence_of, may_lack, attributes_of, block_of, is_one_of}
use Rattle.oil_reader.specs.Attributes.{attribute_named, reserved}
use Rattle.oil_reader.specs.Checks.{is_set, is_os, clashes, same_kind, has_kind}
use Rattle.oil_reader.specs.Configuration.{OsRecord, TaskRecord, IsrRecord, ResourceRecord, EventRecord, CounterRecord, AlarmRecord, Configuration}
use Rattle.oil_reader.specs.Meaning.{value_at, block_settings, block_at, names_in, names_at, settings_in, os_by, os_record, task_by, task_record, isr_record, resource_record, event_record, counter_record, alarm_by, alarm_record, add_by, with_object, with_objects, os_among, no_objects, configuration_of}
use Rattle.oil_printer.proofs.Placed.{bare_setting, bare_block, bare_attribute, bare_object, bare_file}
use Rattle.oil_printer.proofs.Faultless.{all_apart, is_right, repeats, repeats_by, are_right, are_set, is_scope_right, is_block_right, is_block_right_by, is_object_right, is_file_right}

-- ---- lists

all_map : {X : Type 0} (f : X → X) (test : X → Bool) → ((x : X) → test (f x) ≡ test x) → (xs : List X) → list_all test (map f xs) ≡ list_all test xs
all_map f test same [] = refl
all_map f test same (x ∷ xs) = ap (λ (b : Bool). b && list_all test (map f xs)) (same x) ∙ ap (λ (b : Bool). test x && b) (all_map f test same xs)

any_map : {X : Type 0} (f : X → X) (test one : X → Bool) → ((x : X) → test (f x) ≡ one x) → (xs : List X) → list_any test (map f xs) ≡ list_any one xs
any_map f test one same [] = refl
any_map f test one same (x ∷ xs) = ap (λ (b : Bool). b || list_any test (map f xs)) (same x) ∙ ap (λ (b : Bool). one x || b) (any_map f test one same xs)

apart_map : {X : Type 0} (f : X → X) (clash : X → X → Bool) → ((x y : X) → clash (f x) (f y) ≡ clash x y) → (xs : List X) → all_apart clash (map f xs) ≡ all_apart clash xs
apart_map f clash same [] = refl
apart_map f clash same (x ∷ xs) =
    ap (λ (b : Bool). not b && all_apart clash (map f xs)) (any_map f (clash (f x)) (clash x) (same x) xs)
    ∙ ap (λ (b : Bool). not (list_any (clash x) xs) && b) (apart_map f clash same xs)

-- ---- what settings say

value_bare : (p : AttributeName) (xs : List Setting) → value_at p (map bare_setting xs) ≡ value_at p xs
value_bare p [] = refl
value_bare p (x ∷ xs) = ap (λ (o : Option Value). cond (bytes_eq (word_of p) x.name) (Some x.value) o) (value_bare p xs)

names_bare : (p : AttributeName) (xs : List Setting) → names_at p (map bare_setting xs) ≡ names_at p xs
names_bare p [] = refl
names_bare p (x ∷ xs) = ap (λ (ns : List (List ℕ)). cond (bytes_eq (word_of p) x.name) (names_in x.value) [] ++ ns) (names_bare p xs)

block_settings_bare : (b : Option Block) → block_settings (option_map bare_block b) ≡ map bare_setting (block_settings b)
block_settings_bare None = refl
block_settings_bare (Some b) = refl

either_bare : (b : Bool) (xs ys : List Setting) → cond b (map bare_setting xs) (map bare_setting ys) ≡ map bare_setting (cond b xs ys)
either_bare true xs ys = refl
either_bare false xs ys = refl

block_bare : (p : AttributeName) (xs : List Attribute) → block_at p (map bare_attribute xs) ≡ map bare_setting (block_at p xs)
block_bare p [] = refl
block_bare p (a ∷ xs) =
    ap (λ (ss : List Setting). cond (bytes_eq (word_of p) a.setting.name) ss (block_at p (map bare_attribute xs))) (block_settings_bare a.block)
    ∙ ap (λ (ss : List Setting). cond (bytes_eq (word_of p) a.setting.name) (map bare_setting (block_settings a.block)) ss) (block_bare p xs)
    ∙ either_bare (bytes_eq (word_of p) a.setting.name) (block_settings a.block) (block_at p xs)

settings_bare : (xs : List Attribute) → map (λ a. a.setting) (map bare_attribute xs) ≡ map bare_setting (map (λ a. a.setting) xs)
settings_bare [] = refl
settings_bare (a ∷ xs) = ap (λ (ss : List Setting). bare_setting a.setting ∷ ss) (settings_bare xs)

-- ---- objects

os_by_bare : (name : List ℕ) (xs : List Setting) → os_by name (map bare_setting xs) ≡ os_by name xs
os_by_bare name xs =
    rw (value_bare StartupHook xs, value_bare ErrorHook xs, value_bare ShutdownHook xs, value_bare PreTaskHook xs, value_bare PostTaskHook xs, value_bare UseResScheduler xs) refl

os_bare : (o : Object) → os_record (bare_object o) ≡ os_record o
os_bare o = ap (os_by o.name) (settings_bare o.attributes) ∙ os_by_bare o.name (settings_in o)

task_by_bare : (name : List ℕ) (xs block : List Setting) → task_by name (map bare_setting xs) (map bare_setting block) ≡ task_by name xs block
task_by_bare name xs block =
    rw (value_bare TaskPriority xs, value_bare Schedule xs, value_bare Activation xs, value_bare TaskAutostart xs, names_bare StartMode block, names_bare TaskResource xs, names_bare TaskEvent xs) refl

task_bare : (o : Object) → task_record (bare_object o) ≡ task_record o
task_bare o =
    ap (λ (xs : List Setting). task_by o.name xs (block_at TaskAutostart (map bare_attribute o.attributes))) (settings_bare o.attributes)
    ∙ ap (λ (xs : List Setting). task_by o.name (map bare_setting (settings_in o)) xs) (block_bare TaskAutostart o.attributes)
    ∙ task_by_bare o.name (settings_in o) (block_at TaskAutostart o.attributes)

-- the value of an attribute of an object
setting_bare : (p : AttributeName) (o : Object) → value_at p (settings_in (bare_object o)) ≡ value_at p (settings_in o)
setting_bare p o = ap (value_at p) (settings_bare o.attributes) ∙ value_bare p (settings_in o)

isr_bare : (o : Object) → isr_record (bare_object o) ≡ isr_record o
isr_bare o = rw (setting_bare IsrPriority o) refl

resource_bare : (o : Object) → resource_record (bare_object o) ≡ resource_record o
resource_bare o = rw (setting_bare ResourceProperty o) refl

event_bare : (o : Object) → event_record (bare_object o) ≡ event_record o
event_bare o = rw (setting_bare EventMask o) refl

counter_bare : (o : Object) → counter_record (bare_object o) ≡ counter_record o
counter_bare o = rw (setting_bare MaxAllowedValue o, setting_bare TicksPerBase o, setting_bare MinCycle o) refl

alarm_by_bare : (name : List ℕ) (xs action start : List Setting) → alarm_by name (map bare_setting xs) (map bare_setting action) (map bare_setting start) ≡ alarm_by name xs action start
alarm_by_bare name xs action start =
    rw (
      value_bare AlarmCounter xs,
      value_bare AlarmAction xs,
      value_bare AlarmAutostart xs,
      value_bare ActionTask action,
      value_bare ActionEvent action,
      value_bare AlarmTime start,
      value_bare CycleTime start,
      names_bare StartMode start,
    ) refl

alarm_bare : (o : Object) → alarm_record (bare_object o) ≡ alarm_record o
alarm_bare o =
    ap (λ (xs : List Setting). alarm_by o.name xs (block_at AlarmAction (map bare_attribute o.attributes)) (block_at AlarmAutostart (map bare_attribute o.attributes))) (settings_bare o.attributes)
    ∙ ap (λ (xs : List Setting). alarm_by o.name (map bare_setting (settings_in o)) xs (block_at AlarmAutostart (map bare_attribute o.attributes))) (block_bare AlarmAction o.attributes)
    ∙ ap (λ (xs : List Setting). alarm_by o.name (map bare_setting (settings_in o)) (map bare_setting (block_at AlarmAction o.attributes)) xs) (block_bare AlarmAutostart o.attributes)
    ∙ alarm_by_bare o.name (settings_in o) (block_at AlarmAction o.attributes) (block_at AlarmAutostart o.attributes)

-- ---- a file

add_bare : (k : Kind) (c : Configuration) (o : Object) → add_by k c (bare_object o) ≡ add_by k c o
add_bare kind.Os c o = refl
add_bare kind.AppMode c o = refl
add_bare kind.Task c o = ap (λ (x : TaskRecord). record c { tasks = c.tasks ++ x ∷ [] }) (task_bare o)
add_bare kind.Isr c o = ap (λ (x : IsrRecord). record c { routines = c.routines ++ x ∷ [] }) (isr_bare o)
add_bare kind.Resource c o = ap (λ (x : ResourceRecord). record c { resources = c.resources ++ x ∷ [] }) (resource_bare o)
add_bare kind.Event c o = ap (λ (x : EventRecord). record c { events = c.events ++ x ∷ [] }) (event_bare o)
add_bare kind.Counter c o = ap (λ (x : CounterRecord). record c { counters = c.counters ++ x ∷ [] }) (counter_bare o)
add_bare kind.Alarm c o = ap (λ (x : AlarmRecord). record c { alarms = c.alarms ++ x ∷ [] }) (alarm_bare o)

objects_bare : (c : Configuration) (os : List Object) → with_objects c (map bare_object os) ≡ with_objects c os
objects_bare c [] = refl
objects_bare c (o ∷ os) = ap (λ (d : Configuration). with_objects d (map bare_object os)) (add_bare o.kind c o) ∙ objects_bare (with_object c o) os

among_bare : (os : List Object) → os_among (map bare_object os) ≡ os_among os
among_bare [] = refl
among_bare (o ∷ os) =
    ap (λ (x : OsRecord). cond (is_os o.kind) x (os_among (map bare_object os))) (os_bare o)
    ∙ ap (λ (x : OsRecord). cond (is_os o.kind) (os_record o) x) (among_bare os)

pub configuration_bare : (f : File) → configuration_of (bare_file f) ≡ configuration_of f
configuration_bare f =
    ap (λ (x : OsRecord). with_objects (no_objects f.cpu x) (map bare_object f.objects)) (among_bare f.objects)
    ∙ objects_bare (no_objects f.cpu (os_among f.objects)) f.objects

-- ---- the tests for faults

set_bare : (allowed : List AttributeName) (xs : List Setting) → are_set allowed (map bare_setting xs) ≡ are_set allowed xs
set_bare [] xs = refl
set_bare (p ∷ allowed) xs =
    ap (λ (b : Bool). (may_lack (presence_of p) || b) && are_set allowed (map bare_setting xs))
    (any_map bare_setting (λ x. bytes_eq (word_of p) x.name) (λ x. bytes_eq (word_of p) x.name) (λ x. refl) xs)
    ∙ ap (λ (b : Bool). (may_lack (presence_of p) || is_set xs p) && b) (set_bare allowed xs)

repeats_bare : (o : Option AttributeName) (x y : Setting) → repeats_by o (bare_setting x) (bare_setting y) ≡ repeats_by o x y
repeats_bare None x y = refl
repeats_bare (Some p) x y = refl

scope_bare : (allowed : List AttributeName) (xs : List Setting) → is_scope_right allowed (map bare_setting xs) ≡ is_scope_right allowed xs
scope_bare allowed xs =
    ap (λ (b : Bool). b && (all_apart (repeats allowed) (map bare_setting xs) && are_set allowed (map bare_setting xs)))
    (all_map bare_setting (λ x. is_right (attribute_named allowed x.name) x.value) (λ x. refl) xs)
    ∙ ap (λ (b : Bool). are_right allowed xs && (b && are_set allowed (map bare_setting xs))) (apart_map bare_setting (repeats allowed) (λ x y. repeats_bare (attribute_named allowed y.name) x y) xs)
    ∙ ap (λ (b : Bool). are_right allowed xs && (all_apart (repeats allowed) xs && b)) (set_bare allowed xs)

block_right_bare : (o : Option AttributeName) (a : Attribute) → is_block_right_by o (bare_attribute a) ≡ is_block_right_by o a
block_right_bare None a = refl
block_right_bare (Some p) a =
    ap (is_scope_right (block_of p a.setting.value)) (block_settings_bare a.block) ∙ scope_bare (block_of p a.setting.value) (block_settings a.block)

object_right_bare : (o : Object) → is_object_right (bare_object o) ≡ is_object_right o
object_right_bare o =
    let allowed = attributes_of o.kind in
    ap (λ (b : Bool). b && (list_all (is_block_right (attributes_of o.kind)) (map bare_attribute o.attributes) && not (is_one_of (reserved o.kind) o.name)))
    (ap (is_scope_right (attributes_of o.kind)) (settings_bare o.attributes) ∙ scope_bare (attributes_of o.kind) (settings_in o))
    ∙ ap (λ (b : Bool). is_scope_right (attributes_of o.kind) (settings_in o) && (b && not (is_one_of (reserved o.kind) o.name)))
    (all_map bare_attribute (is_block_right (attributes_of o.kind)) (λ a. block_right_bare (attribute_named (attributes_of o.kind) a.setting.name) a) o.attributes)

kind_bare : (k : Kind) (os : List Object) → has_kind k (map bare_object os) ≡ has_kind k os
kind_bare k os = any_map bare_object (λ x. same_kind x.kind k) (λ x. same_kind x.kind k) (λ x. refl) os

pub file_right_bare : (f : File) → is_file_right (bare_file f) ≡ is_file_right f
file_right_bare f =
    let os = f.objects in
    ap (λ (b : Bool). b && (all_apart clashes (map bare_object f.objects) && (has_kind kind.Os (map bare_object f.objects) && has_kind kind.AppMode (map bare_object f.objects))))
    (all_map bare_object is_object_right object_right_bare f.objects)
    ∙ ap (λ (b : Bool). list_all is_object_right f.objects && (b && (has_kind kind.Os (map bare_object f.objects) && has_kind kind.AppMode (map bare_object f.objects))))
    (apart_map bare_object clashes (λ x y. refl) f.objects)
    ∙ ap (λ (b : Bool). list_all is_object_right f.objects && (all_apart clashes f.objects && (b && has_kind kind.AppMode (map bare_object f.objects)))) (kind_bare kind.Os f.objects)
    ∙ ap (λ (b : Bool). list_all is_object_right f.objects && (all_apart clashes f.objects && (has_kind kind.Os f.objects && b))) (kind_bare kind.AppMode f.objects)
