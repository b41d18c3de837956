-- What the reader has checked holds of what a tree without a fault means.
use Rattle.std.proofs.Common.{◌≡◌, ℕ, List, [], ◌∷◌, ◌++◌, map, Option, Some, None, Bool, true, false, cond, not, ◌||◌, ◌&&◌, leb, length, arith, refl, sym, ap, ◌∙◌, subst, inl, inr, append_assoc}
use Rattle.std.specs.Prelude.{codes}
use Rattle.std.specs.List.{list_all}
use Rattle.std.specs.Str.{bytes_eq}
use Rattle.std.proofs.lemmas.Bool.{le-leb, leb-true, and_parts, and_from}
use Rattle.std.proofs.lemmas.Slice.Eq.{bytes_eq-Decides}
use Rattle.osek_base.specs.declared.limits.TheConstants.{MAX_TASK_PRIORITY, MAX_ROUTINE_PRIORITY, MAX_ACTIVATION}
use Rattle.osek_base.specs.Lists.{is_empty}
use Rattle.osek_base.specs.Names.{is_named, is_proper_name, are_distinct_names}
use Rattle.osek_base.specs.Proper.{are_proper_names}
use Rattle.osek_base.specs.Words.{is_letter, is_word_byte}
use Rattle.oil_reader.specs.declared.fault.OilFault.TheVariants as fault
use Rattle.oil_reader.specs.declared.syntax.Kind.{Kind}
use Rattle.oil_reader.specs.declared.syntax.Kind.TheVariants as kind
use Rattle.oil_reader.specs.declared.table.AttributeName.{AttributeName}
use Rattle.oil_reader.specs.declared.table.AttributeName.TheVariants.{TaskPriority, Activation, TaskAutostart, TaskResource, TaskEvent, IsrPriority, EventMask, MaxAllowedValue, TicksPerBase, MinCycle, AlarmCounter, AlarmAction, AlarmAutostart, ActionTask, ActionEvent, AlarmTime, CycleTime, StartMode}
use Rattle.oil_reader.specs.Grammar.{Value, Named, Numeric, Setting, Object, File}
use Rattle.oil_reader.specs.Table.{word_of, presence_of, is_list, attributes_of, Between, AutoOrPositive, in_range, block_of, is_one_of}
use Rattle.oil_reader.specs.Attributes.{Among, Scope, Names, object_scope, reserved, IsSoundScope, IsSoundObject, IsSoundFile}
use Rattle.oil_reader.specs.Checks.{same_kind, is_os, has_kind}
use Rattle.oil_reader.specs.Checked.{is_name, are_names, is_object_name, is_number, is_checked_os, is_checked_task, is_checked_isr, is_checked_resource, is_checked_mask, is_checked_event, is_checked_counter, is_checked_start, is_checked_action, is_checked_alarm, are_checked_modes, are_checked_tasks, are_checked_isrs, are_checked_resources, are_checked_events, are_checked_counters, are_checked_alarms, is_checked}
use Rattle.oil_reader.specs.Spelled.{are_spelled_settings, is_spelled_object, is_spelled}
use Rattle.oil_reader.specs.Meaning.{value_at, block_at, says, is_true, number_in, number_at, names_in, names_at, has_name, settings_in, mask_in, modes_by, action_by, start_by, os_among, no_objects, configuration_of, os_record, task_record, isr_record, resource_record, event_record, counter_record, alarm_record}
use Rattle.oil_reader.proofs.Firsts.{among_right}
use Rattle.oil_reader.proofs.Listed.{any_is}
use Rattle.oil_reader.proofs.ObjectsListed.{one_of_is}
use Rattle.oil_reader.proofs.SpelledValues.{all_is, number_spelled, bits_spelled, name_spelled, names_spelled, some_names, object_name, object_settings, object_block}
use Rattle.oil_reader.proofs.Sound.{any_name, accepted, needed_stands, object_sound, task_priority, task_activation, isr_priority, alarm_counter, action_names, has_os, has_modes, each_sound, block_scope_of, block_name}
use Rattle.oil_reader.proofs.ObjectLists.{records_of, name_of, all_records, some_record, names_are, distinct_names, parts_of, later_parts, cpu_is, os_is, app_modes_are, tasks_are, routines_are, resources_are, events_are, counters_are, alarms_are}

-- ---- list attributes name nothing twice

module _ (s : Scope) (sound : IsSoundScope s) (p : AttributeName) (names : Names s.allowed (word_of p) p) (list : is_list (presence_of p) ≡ true) where
  -- a setting that gives a name to the list
  record Holder (xs : List Setting) (name : List ℕ) : Type 0 where
    setting : Setting
    stands : Among xs setting
    named : word_of p ≡ setting.name
    value : setting.value ≡ Named name

  holder_step : (x : Setting) (xs : List Setting) (name : List ℕ) (b : Bool) → bytes_eq (word_of p) x.name ≡ b → (v : Value) → x.value ≡ v → Among (cond b (names_in v) [] ++ names_at p xs) name
      → (Among (names_at p xs) name → Holder xs name) → Holder (x ∷ xs) name
  holder_step x xs name true t (Named n) e (inl same) next = record { setting = x; stands = inl refl; named = (bytes_eq-Decides (word_of p) x.name).0 t; value = e ∙ ap Named same }
  holder_step x xs name true t (Named n) e (inr among) next = let h = next among in record { setting = h.setting; stands = inr h.stands; named = h.named; value = h.value }
  holder_step x xs name true t (Numeric n) e among next = let h = next among in record { setting = h.setting; stands = inr h.stands; named = h.named; value = h.value }
  holder_step x xs name false t v e among next = let h = next among in record { setting = h.setting; stands = inr h.stands; named = h.named; value = h.value }

  holder_of : (xs : List Setting) (name : List ℕ) → Among (names_at p xs) name → Holder xs name
  holder_of [] name among = absurd among
  holder_of (x ∷ xs) name among = holder_step x xs name (bytes_eq (word_of p) x.name) refl x.value refl among (holder_of xs name)

  no_repeat : (before : List Setting) (x : Setting) (xs : List Setting) (name : List ℕ) → s.settings ≡ before ++ x ∷ xs → word_of p ≡ x.name → x.value ≡ Named name → Holder xs name → ⊥
  no_repeat before x xs name is here value h =
      let q = parts_of xs h.setting h.stands in
      sound (fault.Twice h.setting.name_place) (record {
        front = before ++ x ∷ q.front;
        second = h.setting;
        back = q.back;
        parts = later_parts s.settings before x xs h.setting is q;
        attribute = p;
        names = subst (λ (w : List ℕ). Names s.allowed w p) h.named names;
        first = x;
        stands = among_right before (x ∷ q.front) x (inl refl);
        again = (sym here ∙ h.named, λ l. value ∙ sym h.value);
        place_is = refl;
      })

  fresh_if : (before : List Setting) (x : Setting) (xs : List Setting) (name : List ℕ) → s.settings ≡ before ++ x ∷ xs → word_of p ≡ x.name → x.value ≡ Named name
      → (b : Bool) → is_named name (names_at p xs) ≡ b → b ≡ false
  fresh_if before x xs name is here value false t = refl
  fresh_if before x xs name is here value true t =
      let n = any_is (bytes_eq name) (names_at p xs) t in
      let same : name ≡ n.0 = (bytes_eq-Decides name n.0).0 n.2 in
      absurd (no_repeat before x xs name is here value (holder_of xs name (subst (Among (names_at p xs)) (sym same) n.1)))

  fresh_step : (before : List Setting) (x : Setting) (xs : List Setting) → s.settings ≡ before ++ x ∷ xs → (b : Bool) → bytes_eq (word_of p) x.name ≡ b → (v : Value) → x.value ≡ v
      → are_distinct_names (names_at p xs) ≡ true → are_distinct_names (cond b (names_in v) [] ++ names_at p xs) ≡ true
  fresh_step before x xs is false t v e rest = rest
  fresh_step before x xs is true t (Numeric n) e rest = rest
  fresh_step before x xs is true t (Named n) e rest = rw (fresh_if before x xs n is ((bytes_eq-Decides (word_of p) x.name).0 t) e (is_named n (names_at p xs)) refl) rest

  fresh_from : (before xs : List Setting) → s.settings ≡ before ++ xs → are_distinct_names (names_at p xs) ≡ true
  fresh_from before [] is = refl
  fresh_from before (x ∷ xs) is = fresh_step before x xs is (bytes_eq (word_of p) x.name) refl x.value refl (fresh_from (before ++ x ∷ []) xs (is ∙ sym (append_assoc before (x ∷ []) xs)))

  pub distinct_list : are_distinct_names (names_at p s.settings) ≡ true
  distinct_list = fresh_from [] s.settings refl

-- ---- blocks of AUTOSTART

true_is : (o : Option Value) (w : List ℕ) → says o w ≡ true → o ≡ Some (Named w)
true_is None w h = absurd cc
true_is (Some (Named s)) w h = ap (λ (t : List ℕ). Some (Named t)) ((bytes_eq-Decides s w).0 h)
true_is (Some (Numeric n)) w h = absurd cc

module _ (o : Object) (sound : IsSoundObject o) (p : AttributeName) (names : Names (attributes_of o.kind) (word_of p) p) (allowed : List AttributeName)
    (block : block_of p (Named (codes "TRUE")) ≡ allowed) (stands : Among allowed StartMode) (mode : Names allowed (word_of StartMode) StartMode) (starts : is_true p (settings_in o) ≡ true) where
  start_value : value_at p (settings_in o) ≡ Some (Named (codes "TRUE"))
  start_value = true_is (value_at p (settings_in o)) (codes "TRUE") starts

  -- the modes of a start are not named twice
  distinct_modes : are_distinct_names (names_at StartMode (block_at p o.attributes)) ≡ true
  distinct_modes =
      let b = block_scope_of o sound p names (Named (codes "TRUE")) start_value in
      let named : Names b.scope.allowed (word_of StartMode) StartMode = subst (λ (l : List AttributeName). Names l (word_of StartMode) StartMode) (sym (b.allowed ∙ block)) mode in
      subst (λ (xs : List Setting). are_distinct_names (names_at StartMode xs) ≡ true) b.settings (distinct_list b.scope b.sound StartMode named refl)

  -- a start has a mode
  some_modes : is_empty (names_at StartMode (block_at p o.attributes)) ≡ false
  some_modes = some_names StartMode (block_at p o.attributes) (block_name o sound p names (Named (codes "TRUE")) start_value StartMode allowed block stands mode refl any_name)

modes_distinct : (b : Bool) (block : List Setting) → (b ≡ true → are_distinct_names (names_at StartMode block) ≡ true) → are_distinct_names (modes_by b block) ≡ true
modes_distinct true block h = h refl
modes_distinct false block h = refl

modes_named : (b : Bool) (block : List Setting) → are_spelled_settings block ≡ true → are_names (modes_by b block) ≡ true
modes_named true block spelled = names_spelled StartMode block spelled
modes_named false block spelled = refl

start_if : (b : Bool) (block : List Setting) → are_spelled_settings block ≡ true → (b ≡ true → is_empty (names_at StartMode block) ≡ false) → (b ≡ true → are_distinct_names (names_at StartMode block) ≡ true) → is_checked_start (start_by b block) ≡ true
start_if true block spelled some distinct =
    rw (some refl, distinct refl, names_spelled StartMode block spelled, number_spelled AlarmTime block spelled, number_spelled CycleTime block spelled) refl
start_if false block spelled some distinct = refl

-- ---- objects

low_of : (low high : ℕ) (v : Value) → in_range (Between low high) v ≡ true → leb low (number_in (Some v)) ≡ true
low_of low high (Named s) h = absurd cc
low_of low high (Numeric n) h = (and_parts (leb low n) (leb n high) h).0

activation_low : (o : Object) → IsSoundObject o → o.kind ≡ kind.Task → leb 1 (number_at Activation (settings_in o)) ≡ true
activation_low o sound k =
    let scope = object_scope o in
    let v = needed_stands scope (object_sound o sound) Activation (rw k (inr (inr (inl refl)))) refl in
    rw v.1 (low_of 1 MAX_ACTIVATION v.0 (accepted scope (object_sound o sound) Activation (rw k refl) v.0 v.1))

free_if : (o : Object) → IsSoundObject o → (b : Bool) → is_one_of (reserved o.kind) o.name ≡ b → b ≡ false
free_if o sound false t = refl
free_if o sound true t = absurd (sound (fault.Range o.place) (inr (one_of_is (reserved o.kind) o.name t, refl)))

mask_if : (o : Option Value) → ((v : Value) → o ≡ Some v → in_range AutoOrPositive v ≡ true) → ((n : ℕ) → o ≡ Some (Numeric n) → is_number n ≡ true) → is_checked_mask (mask_in o) ≡ true
mask_if None h small = refl
mask_if (Some (Named s)) h small = refl
mask_if (Some (Numeric n)) h small = rw (h (Numeric n) refl) (small n refl)

action_if : (sets : Bool) (block : List Setting) → are_spelled_settings block ≡ true → has_name ActionTask block ≡ true → (sets ≡ true → has_name ActionEvent block ≡ true) → is_checked_action (action_by sets block) ≡ true
action_if true block spelled task event = rw (name_spelled ActionTask block spelled task) (name_spelled ActionEvent block spelled (event refl))
action_if false block spelled task event = name_spelled ActionTask block spelled task

module _ (o : Object) (sound : IsSoundObject o) (spelled : is_spelled_object o ≡ true) where
  -- an object has a name that its kind may have
  name_checked : (k : Kind) → o.kind ≡ k → is_object_name k o.name ≡ true
  name_checked k is =
      let free : is_one_of (reserved k) o.name ≡ false = ap (λ (j : Kind). is_one_of (reserved j) o.name) (sym is) ∙ free_if o sound (is_one_of (reserved o.kind) o.name) refl in
      and_from (is_name o.name) (not (is_one_of (reserved k) o.name)) (object_name o spelled) (ap not free)

  task_checked : o.kind ≡ kind.Task → is_checked_task (task_record o) ≡ true
  task_checked k =
      let name = name_checked kind.Task k in
      let xs = settings_in o in
      let scope = object_sound o sound in
      let high = le-leb (number_at TaskPriority xs) MAX_TASK_PRIORITY (task_priority o sound k) in
      let low = activation_low o sound k in
      let top = le-leb (number_at Activation xs) MAX_ACTIVATION (task_activation o sound k) in
      let block = object_block o spelled TaskAutostart in
      let starts = is_true TaskAutostart xs in
      let distinct = modes_distinct starts (block_at TaskAutostart o.attributes) (distinct_modes o sound TaskAutostart (rw k refl) (StartMode ∷ []) refl (inl refl) refl) in
      let modes = modes_named starts (block_at TaskAutostart o.attributes) block in
      let resources = distinct_list (object_scope o) scope TaskResource (rw k refl) refl in
      let events = distinct_list (object_scope o) scope TaskEvent (rw k refl) refl in
      let resource_names = names_spelled TaskResource xs (object_settings o spelled) in
      let event_names = names_spelled TaskEvent xs (object_settings o spelled) in
      rw (name, high, low, top, distinct, resources, events, modes, resource_names, event_names) refl

  isr_checked : o.kind ≡ kind.Isr → is_checked_isr (isr_record o) ≡ true
  isr_checked k = rw (name_checked kind.Isr k) (le-leb (number_at IsrPriority (settings_in o)) MAX_ROUTINE_PRIORITY (isr_priority o sound k))

  resource_checked : o.kind ≡ kind.Resource → is_checked_resource (resource_record o) ≡ true
  resource_checked k = name_checked kind.Resource k

  event_checked : o.kind ≡ kind.Event → is_checked_event (event_record o) ≡ true
  event_checked k =
      rw (name_checked kind.Event k) (mask_if (value_at EventMask (settings_in o)) (accepted (object_scope o) (object_sound o sound) EventMask (rw k refl)) (λ n e. bits_spelled EventMask (settings_in o) n (object_settings o spelled) e))

  counter_checked : o.kind ≡ kind.Counter → is_checked_counter (counter_record o) ≡ true
  counter_checked k =
      let xs = settings_in o in
      let all = object_settings o spelled in
      rw (name_checked kind.Counter k, number_spelled MaxAllowedValue xs all, number_spelled TicksPerBase xs all, number_spelled MinCycle xs all) refl

  alarm_checked : o.kind ≡ kind.Alarm → is_checked_alarm (alarm_record o) ≡ true
  alarm_checked k =
      let counter = name_spelled AlarmCounter (settings_in o) (object_settings o spelled) (alarm_counter o sound k) in
      let names = action_names o sound k in
      let action = action_if (says (value_at AlarmAction (settings_in o)) (codes "SETEVENT")) (block_at AlarmAction o.attributes) (object_block o spelled AlarmAction) names.task names.event in
      let allowed = AlarmTime ∷ CycleTime ∷ StartMode ∷ [] in
      let start = start_if (is_true AlarmAutostart (settings_in o)) (block_at AlarmAutostart o.attributes) (object_block o spelled AlarmAutostart)
      (some_modes o sound AlarmAutostart (rw k refl) allowed refl (inr (inr (inl refl))) refl)
      (distinct_modes o sound AlarmAutostart (rw k refl) allowed refl (inr (inr (inl refl))) refl) in
      rw (name_checked kind.Alarm k, counter, action, start) refl

  os_checked : o.kind ≡ kind.Os → is_checked_os (os_record o) ≡ true
  os_checked k = name_checked kind.Os k

-- ---- files

proper_of : (name : List ℕ) → is_name name ≡ true → is_proper_name name ≡ true
proper_of [] h = absurd cc
proper_of (b ∷ bytes) h =
    let short = leb-true (length bytes) 31 (and_parts (is_letter b && list_all is_word_byte bytes) (leb (length bytes) 31) h).1 in
    and_from (leb 1 (length (b ∷ bytes))) (leb (length (b ∷ bytes)) 32) (le-leb 1 (length (b ∷ bytes)) (omega arith)) (le-leb (length (b ∷ bytes)) 32 (omega (arith, short)))

is_os_is : (k : Kind) → is_os k ≡ true → k ≡ kind.Os
is_os_is kind.Os h = refl
is_os_is kind.AppMode h = absurd cc
is_os_is kind.Task h = absurd cc
is_os_is kind.Isr h = absurd cc
is_os_is kind.Resource h = absurd cc
is_os_is kind.Event h = absurd cc
is_os_is kind.Counter h = absurd cc
is_os_is kind.Alarm h = absurd cc

other_kind : (k : Kind) (b : Bool) → is_os k ≡ false → (same_kind k kind.Os || b) ≡ true → b ≡ true
other_kind kind.Os b h has = absurd cc
other_kind kind.AppMode b h has = has
other_kind kind.Task b h has = has
other_kind kind.Isr b h has = has
other_kind kind.Resource b h has = has
other_kind kind.Event b h has = has
other_kind kind.Counter b h has = has
other_kind kind.Alarm b h has = has

os_step : (o : Object) (os : List Object) (b : Bool) → is_os o.kind ≡ b → (o.kind ≡ kind.Os → is_checked_os (os_record o) ≡ true) → (has_kind kind.Os os ≡ true → is_checked_os (os_among os) ≡ true)
    → has_kind kind.Os (o ∷ os) ≡ true → is_checked_os (cond b (os_record o) (os_among os)) ≡ true
os_step o os true e here next has = here (is_os_is o.kind e)
os_step o os false e here next has = next (other_kind o.kind (has_kind kind.Os os) e has)

os_from : (os : List Object) → ((o : Object) → Among os o → o.kind ≡ kind.Os → is_checked_os (os_record o) ≡ true) → has_kind kind.Os os ≡ true → is_checked_os (os_among os) ≡ true
os_from [] each has = absurd cc
os_from (o ∷ os) each has = os_step o os (is_os o.kind) refl (each o (inl refl)) (os_from os (λ p among. each p (inr among))) has

module _ (f : File) (sound : IsSoundFile f) (spelled : is_spelled f ≡ true) where
  each_spelled : (o : Object) → Among f.objects o → is_spelled_object o ≡ true
  each_spelled o among = all_is is_spelled_object f.objects o (and_parts (is_name f.cpu) (list_all is_spelled_object f.objects) spelled).1 among

  -- a test of what an object without a fault says
  each_passes : {R : Type 0} (test : R → Bool) (k : Kind) (r : Object → R) → ((o : Object) → IsSoundObject o → is_spelled_object o ≡ true → o.kind ≡ k → test (r o) ≡ true) → list_all test (records_of k r f.objects) ≡ true
  each_passes test k r one = all_records test k r f.objects (λ o among is. one o (each_sound f sound o among) (each_spelled o among) is)

  proper_names : (k : Kind) → are_proper_names (records_of k name_of f.objects) ≡ true
  proper_names k = rw (all_records is_proper_name k name_of f.objects (λ o among e. proper_of o.name (object_name o (each_spelled o among))), distinct_names f sound k) refl

  os_is_checked : is_checked_os (configuration_of f).os ≡ true
  os_is_checked =
      ap is_checked_os (os_is (no_objects f.cpu (os_among f.objects)) f.objects)
      ∙ os_from f.objects (λ o among is. os_checked o (each_sound f sound o among) (each_spelled o among) is) (has_os f sound)

  cpu_is_checked : is_name (configuration_of f).cpu ≡ true
  cpu_is_checked =
      ap is_name (cpu_is (no_objects f.cpu (os_among f.objects)) f.objects)
      ∙ (and_parts (is_name f.cpu) (list_all is_spelled_object f.objects) spelled).0

  modes_checked : are_checked_modes (configuration_of f).app_modes ≡ true
  modes_checked =
      ap are_checked_modes (app_modes_are (no_objects f.cpu (os_among f.objects)) f.objects)
      ∙ (rw (
        some_record kind.AppMode name_of f.objects (has_modes f sound),
        each_passes (is_object_name kind.AppMode) kind.AppMode name_of (λ o s w k. name_checked o s w kind.AppMode k),
      ) (proper_names kind.AppMode))

  -- the list of a kind, where each object without a fault passes the kind's test
  list_checked : {R : Type 0} (xs : List R) (k : Kind) (r : Object → R) (name : R → List ℕ) (test : R → Bool) → xs ≡ records_of k r f.objects → ((o : Object) → name (r o) ≡ o.name)
      → ((o : Object) → IsSoundObject o → is_spelled_object o ≡ true → o.kind ≡ k → test (r o) ≡ true) → (list_all test xs && are_proper_names (map name xs)) ≡ true
  list_checked xs k r name test is named one = rw (is, each_passes test k r one, names_are k r name named f.objects) (proper_names k)

  tasks_checked : are_checked_tasks (configuration_of f).tasks ≡ true
  tasks_checked = list_checked (configuration_of f).tasks kind.Task task_record (λ x. x.name) is_checked_task (tasks_are (no_objects f.cpu (os_among f.objects)) f.objects) (λ o. refl) task_checked

  isrs_checked : are_checked_isrs (configuration_of f).routines ≡ true
  isrs_checked = list_checked (configuration_of f).routines kind.Isr isr_record (λ x. x.name) is_checked_isr (routines_are (no_objects f.cpu (os_among f.objects)) f.objects) (λ o. refl) isr_checked

  resources_checked : are_checked_resources (configuration_of f).resources ≡ true
  resources_checked = list_checked (configuration_of f).resources kind.Resource resource_record (λ x. x.name) is_checked_resource (resources_are (no_objects f.cpu (os_among f.objects)) f.objects) (λ o. refl) resource_checked

  events_checked : are_checked_events (configuration_of f).events ≡ true
  events_checked = list_checked (configuration_of f).events kind.Event event_record (λ x. x.name) is_checked_event (events_are (no_objects f.cpu (os_among f.objects)) f.objects) (λ o. refl) event_checked

  counters_checked : are_checked_counters (configuration_of f).counters ≡ true
  counters_checked = list_checked (configuration_of f).counters kind.Counter counter_record (λ x. x.name) is_checked_counter (counters_are (no_objects f.cpu (os_among f.objects)) f.objects) (λ o. refl) counter_checked

  alarms_checked : are_checked_alarms (configuration_of f).alarms ≡ true
  alarms_checked = list_checked (configuration_of f).alarms kind.Alarm alarm_record (λ x. x.name) is_checked_alarm (alarms_are (no_objects f.cpu (os_among f.objects)) f.objects) (λ o. refl) alarm_checked

  pub configuration_checked : is_checked (configuration_of f) ≡ true
  configuration_checked =
      rw (cpu_is_checked, os_is_checked, modes_checked, tasks_checked, isrs_checked, resources_checked, events_checked, counters_checked, alarms_checked) refl
