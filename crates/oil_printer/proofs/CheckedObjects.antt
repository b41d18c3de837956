-- The objects of a file that was checked are printed as tokens, and have no fault.
use Rattle.std.proofs.Common.{◌≡◌, ℕ, ◌<◌, ◌^◌, List, [], ◌∷◌, ◌++◌, map, Bool, true, false, not, ◌&&◌, ◌||◌, leb, refl, ap, ◌∙◌, arith}
use Rattle.std.specs.Prelude.{codes}
use Rattle.std.specs.List.{list_all, list_any}
use Rattle.std.specs.Str.{bytes_eq}
use Rattle.std.proofs.Math.Dec.{leb-zero}
use Rattle.std.proofs.lemmas.Bool.{leb-true, lt-ltb, and_parts}
use Rattle.osek_base.specs.declared.limits.TheConstants.{MAX_ROUTINE_PRIORITY}
use Rattle.osek_base.specs.Names.{are_distinct_names}
use Rattle.osek_base.specs.declared.task.Schedule.{Schedule}
use Rattle.osek_base.specs.declared.task.Schedule.TheVariants as schedule
use Rattle.osek_base.specs.declared.task.Property.{Property}
use Rattle.osek_base.specs.declared.task.Property.TheVariants as property
use Rattle.oil_reader.specs.declared.file.Mask.{Mask}
use Rattle.oil_reader.specs.declared.file.Mask.TheVariants as mask
use Rattle.oil_reader.specs.declared.syntax.Kind.TheVariants as kind
use Rattle.oil_reader.specs.declared.table.AttributeName.TheVariants.{EventMask}
use Rattle.oil_reader.specs.Grammar.{Object}
use Rattle.oil_reader.specs.Table.{accepts, is_one_of}
use Rattle.oil_reader.specs.Attributes.{reserved}
use Rattle.oil_reader.specs.Checked.{is_name, is_object_name, is_number, is_checked_os, is_checked_isr, is_checked_resource, is_checked_mask, is_checked_event, are_numbers, is_checked_counter}
use Rattle.oil_reader.specs.Configuration.{OsRecord, IsrRecord, ResourceRecord, EventRecord, CounterRecord}
use Rattle.oil_reader.specs.Spelled.{is_spelled_value}
use Rattle.oil_printer.specs.Printed.{switch_word, schedule_word, property_word, mask_value, os_object, mode_object, isr_object, resource_object, event_object, counter_object}
use Rattle.oil_printer.proofs.Spelled.{may_print_object}
use Rattle.oil_printer.proofs.Faultless.{all_apart, is_object_right}

-- an object that is printed as tokens, and has no fault
pub record IsFit (o : Object) : Type 0 where
  pub prints : may_print_object o ≡ true
  pub right : is_object_right o ≡ true

-- ---- numbers and words

pub number_below : (n m : ℕ) → m < 2 ^ 32 → leb n m ≡ true → is_number n ≡ true
number_below n m small h = lt-ltb n (2 ^ 32) (omega (arith, small, leb-true n m h))

switch_name : (b : Bool) → is_name (switch_word b) ≡ true
switch_name true = refl
switch_name false = refl

switch_right : (b : Bool) → is_one_of (codes "TRUE" ∷ codes "FALSE" ∷ []) (switch_word b) ≡ true
switch_right true = refl
switch_right false = refl

pub schedule_name : (s : Schedule) → is_name (schedule_word s) ≡ true
schedule_name schedule.Non = refl
schedule_name schedule.Full = refl

pub schedule_right : (s : Schedule) → is_one_of (codes "NON" ∷ codes "FULL" ∷ []) (schedule_word s) ≡ true
schedule_right schedule.Non = refl
schedule_right schedule.Full = refl

property_name : (p : Property) → is_name (property_word p) ≡ true
property_name property.Standard = refl
property_name property.Internal = refl

property_right : (p : Property) → is_one_of (codes "STANDARD" ∷ codes "INTERNAL" ∷ []) (property_word p) ≡ true
property_right property.Standard = refl
property_right property.Internal = refl

mask_spelled : (m : Mask) → is_checked_mask m ≡ true → is_spelled_value (mask_value m) ≡ true
mask_spelled mask.Auto h = refl
mask_spelled (mask.Bits n) h = (and_parts (leb 1 n) (is_number n) h).1

mask_right : (m : Mask) → is_checked_mask m ≡ true → accepts EventMask (mask_value m) ≡ true
mask_right mask.Auto h = refl
mask_right (mask.Bits n) h = (and_parts (leb 1 n) (is_number n) h).0

-- ---- lists of names

pub any_of : {X Y : Type 0} (f : X → Y) (test : Y → Bool) (one : X → Bool) → ((x : X) → test (f x) ≡ one x) → (xs : List X) → list_any test (map f xs) ≡ list_any one xs
any_of f test one same [] = refl
any_of f test one same (x ∷ xs) = ap (λ (b : Bool). b || list_any test (map f xs)) (same x) ∙ ap (λ (b : Bool). one x || b) (any_of f test one same xs)

pub all_true : {X Y : Type 0} (f : X → Y) (test : Y → Bool) → ((x : X) → test (f x) ≡ true) → (xs : List X) → list_all test (map f xs) ≡ true
all_true f test same [] = refl
all_true f test same (x ∷ xs) = rw (same x) (all_true f test same xs)

pub any_false : {X Y : Type 0} (f : X → Y) (test : Y → Bool) → ((x : X) → test (f x) ≡ false) → (xs : List X) → list_any test (map f xs) ≡ false
any_false f test same [] = refl
any_false f test same (x ∷ xs) = rw (same x) (any_false f test same xs)

or_assoc : (a b c : Bool) → (a || (b || c)) ≡ ((a || b) || c)
or_assoc true b c = refl
or_assoc false b c = refl

pub any_both : {X : Type 0} (test : X → Bool) (xs ys : List X) → list_any test (xs ++ ys) ≡ (list_any test xs || list_any test ys)
any_both test [] ys = refl
any_both test (x ∷ xs) ys = ap (λ (b : Bool). test x || b) (any_both test xs ys) ∙ or_assoc (test x) (list_any test xs) (list_any test ys)

pub neither : (a b : Bool) → not a ≡ true → not b ≡ true → not (a || b) ≡ true
neither true b h k = absurd cc
neither false b h k = k

pub apart_both : {X : Type 0} (clash : X → X → Bool) (xs ys : List X) → all_apart clash xs ≡ true → all_apart clash ys ≡ true
    → list_all (λ x. not (list_any (clash x) ys)) xs ≡ true → all_apart clash (xs ++ ys) ≡ true
apart_both clash [] ys a b cross = b
apart_both clash (x ∷ xs) ys a b cross =
    let t = and_parts (not (list_any (clash x) xs)) (all_apart clash xs) a in
    let u = and_parts (not (list_any (clash x) ys)) (list_all (λ x. not (list_any (clash x) ys)) xs) cross in
    rw (any_both (clash x) xs ys, neither (list_any (clash x) xs) (list_any (clash x) ys) t.0 u.0) (apart_both clash xs ys t.1 b u.1)

-- once for each of some names that are distinct
pub apart_names : {X : Type 0} (clash : X → X → Bool) (f : List ℕ → X) → ((m n : List ℕ) → clash (f m) (f n) ≡ bytes_eq m n) → (names : List (List ℕ)) → are_distinct_names names ≡ true → all_apart clash (map f names) ≡ true
apart_names clash f same [] h = refl
apart_names clash f same (name ∷ names) h =
    let t = and_parts (not (list_any (bytes_eq name) names)) (are_distinct_names names) h in
    rw (any_of f (clash (f name)) (bytes_eq name) (same name) names, t.0) (apart_names clash f same names t.1)

-- ---- the smaller kinds

pub os_fit : (o : OsRecord) → is_checked_os o ≡ true → IsFit (os_object o)
os_fit o h =
    let t = and_parts (is_name o.name) (not (is_one_of (reserved kind.Os) o.name)) h in
    record {
      prints = rw (t.0, switch_name o.hooks.startup, switch_name o.hooks.error, switch_name o.hooks.shutdown, switch_name o.hooks.pre_task, switch_name o.hooks.post_task, switch_name o.use_res_scheduler) refl;
      right = rw (t.1, switch_right o.hooks.startup, switch_right o.hooks.error, switch_right o.hooks.shutdown, switch_right o.hooks.pre_task, switch_right o.hooks.post_task, switch_right o.use_res_scheduler) refl;
    }

pub mode_fit : (name : List ℕ) → is_object_name kind.AppMode name ≡ true → IsFit (mode_object name)
mode_fit name h =
    let t = and_parts (is_name name) (not (is_one_of (reserved kind.AppMode) name)) h in
    record { prints = rw t.0 refl; right = t.1 }

pub isr_fit : (i : IsrRecord) → is_checked_isr i ≡ true → IsFit (isr_object i)
isr_fit i h =
    let s = and_parts (is_object_name kind.Isr i.name) (leb i.priority MAX_ROUTINE_PRIORITY) h in
    let t = and_parts (is_name i.name) (not (is_one_of (reserved kind.Isr) i.name)) s.0 in
    record {
      prints = rw (t.0, number_below i.priority MAX_ROUTINE_PRIORITY (omega arith) s.1) refl;
      right = rw (leb-zero i.priority, s.1, t.1) refl;
    }

pub resource_fit : (r : ResourceRecord) → is_checked_resource r ≡ true → IsFit (resource_object r)
resource_fit r h =
    let t = and_parts (is_name r.name) (not (is_one_of (reserved kind.Resource) r.name)) h in
    record { prints = rw (t.0, property_name r.property) refl; right = rw (property_right r.property, t.1) refl }

pub event_fit : (e : EventRecord) → is_checked_event e ≡ true → IsFit (event_object e)
event_fit e h =
    let s = and_parts (is_object_name kind.Event e.name) (is_checked_mask e.mask) h in
    let t = and_parts (is_name e.name) (not (is_one_of (reserved kind.Event) e.name)) s.0 in
    record { prints = rw (t.0, mask_spelled e.mask s.1) refl; right = rw (mask_right e.mask s.1, t.1) refl }

pub counter_fit : (c : CounterRecord) → is_checked_counter c ≡ true → IsFit (counter_object c)
counter_fit c h =
    let s = and_parts (is_object_name kind.Counter c.name) (are_numbers c.counter) h in
    let t = and_parts (is_name c.name) (not (is_one_of (reserved kind.Counter) c.name)) s.0 in
    let u = and_parts (is_number c.counter.max_allowed_value && is_number c.counter.ticks_per_base) (is_number c.counter.min_cycle) s.1 in
    let v = and_parts (is_number c.counter.max_allowed_value) (is_number c.counter.ticks_per_base) u.0 in
    record { prints = rw (t.0, v.0, v.1, u.1) refl; right = t.1 }
