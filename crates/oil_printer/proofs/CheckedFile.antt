-- The tree of a file that was checked is printed as tokens, and has no fault.
use Rattle.std.proofs.Common.{◌≡◌, ℕ, suc, ◌<◌, List, [], ◌∷◌, ◌++◌, map, Bool, true, false, not, ltb, refl, sym, ◌∙◌, arith}
use Rattle.std.specs.List.{list_all, list_any}
use Rattle.std.specs.Str.{bytes_eq}
use Rattle.std.proofs.lemmas.Bool.{ltb-true, lt-ltb, ne_eqb, and_parts}
use Rattle.std.proofs.lemmas.List.Folds.{list_all-append}
use Rattle.osek_base.specs.Lists.{is_empty}
use Rattle.osek_base.specs.Names.{are_distinct_names, is_proper_name}
use Rattle.osek_base.specs.Proper.{are_proper_names}
use Rattle.oil_reader.specs.declared.syntax.Kind.TheVariants as kind
use Rattle.oil_reader.specs.Grammar.{Object}
use Rattle.oil_reader.specs.Checks.{kind_number, clashes, has_kind}
use Rattle.oil_reader.specs.Checked.{is_object_name, is_checked_os, is_checked_task, is_checked_isr, is_checked_resource, is_checked_event, is_checked_counter, is_checked_alarm, CheckedParts}
use Rattle.oil_reader.specs.Configuration.{OsRecord, Configuration}
use Rattle.oil_printer.specs.Printed.{os_object, mode_object, task_object, isr_object, resource_object, event_object, counter_object, alarm_object, objects_of, tree_of}
use Rattle.oil_printer.proofs.Spelled.{may_print_object, may_print}
use Rattle.oil_printer.proofs.Faultless.{all_apart, is_object_right, is_file_right}
use Rattle.oil_printer.proofs.CheckedObjects.{IsFit, any_of, apart_both, apart_names, os_fit, mode_fit, isr_fit, resource_fit, event_fit, counter_fit}
use Rattle.oil_printer.proofs.CheckedTasks.{task_fit, alarm_fit}

-- ---- objects whose kinds have numbers below k

abbrev is_below : ℕ → Object → Bool
is_below k o = ltb (kind_number o.kind) k

record AreFit (k : ℕ) (os : List Object) : Type 0 where
  prints : list_all may_print_object os ≡ true
  right : list_all is_object_right os ≡ true
  apart : all_apart clashes os ≡ true
  below : list_all (is_below k) os ≡ true

below_more : (k : ℕ) (os : List Object) → list_all (is_below k) os ≡ true → list_all (is_below (suc k)) os ≡ true
below_more k [] h = refl
below_more k (o ∷ os) h =
    let t = and_parts (is_below k o) (list_all (is_below k) os) h in
    let less = ltb-true (kind_number o.kind) k t.0 in
    rw (lt-ltb (kind_number o.kind) (suc k) (omega (arith, less))) (below_more k os t.1)

-- ---- one more kind

module _ {R : Type 0} (object : R → Object) where
  all_print : (test : R → Bool) → ((x : R) → test x ≡ true → IsFit (object x)) → (xs : List R) → list_all test xs ≡ true → list_all may_print_object (map object xs) ≡ true
  all_print test fit [] h = refl
  all_print test fit (x ∷ xs) h =
      let t = and_parts (test x) (list_all test xs) h in
      rw (fit x t.0).prints (all_print test fit xs t.1)

  all_right : (test : R → Bool) → ((x : R) → test x ≡ true → IsFit (object x)) → (xs : List R) → list_all test xs ≡ true → list_all is_object_right (map object xs) ≡ true
  all_right test fit [] h = refl
  all_right test fit (x ∷ xs) h =
      let t = and_parts (test x) (list_all test xs) h in
      rw (fit x t.0).right (all_right test fit xs t.1)

  all_below : (k : ℕ) → ((x : R) → kind_number (object x).kind ≡ k) → (xs : List R) → list_all (is_below (suc k)) (map object xs) ≡ true
  all_below k same [] = refl
  all_below k same (x ∷ xs) = rw (lt-ltb (kind_number (object x).kind) (suc k) (omega (arith, same x))) (all_below k same xs)

  -- an object of another kind clashes with none of them
  none_clash : (k : ℕ) → ((x : R) → kind_number (object x).kind ≡ k) → (o : Object) → kind_number o.kind < k → (xs : List R) → list_any (clashes o) (map object xs) ≡ false
  none_clash k same o less [] = refl
  none_clash k same o less (x ∷ xs) =
      rw (ne_eqb (kind_number o.kind) (kind_number (object x).kind) (λ e. omega (arith, e, same x, less))) (none_clash k same o less xs)

  all_clash : (k : ℕ) → ((x : R) → kind_number (object x).kind ≡ k) → (os : List Object) → list_all (is_below k) os ≡ true → (xs : List R) → list_all (λ o. not (list_any (clashes o) (map object xs))) os ≡ true
  all_clash k same [] h xs = refl
  all_clash k same (o ∷ os) h xs =
      let t = and_parts (is_below k o) (list_all (is_below k) os) h in
      rw (none_clash k same o (ltb-true (kind_number o.kind) k t.0) xs) (all_clash k same os t.1 xs)

  -- objects with distinct names
  apart_objects : (name : R → List ℕ) → ((x y : R) → clashes (object x) (object y) ≡ bytes_eq (name x) (name y)) → (xs : List R) → are_distinct_names (map name xs) ≡ true → all_apart clashes (map object xs) ≡ true
  apart_objects name same [] h = refl
  apart_objects name same (x ∷ xs) h =
      let t = and_parts (not (list_any (bytes_eq (name x)) (map name xs))) (are_distinct_names (map name xs)) h in
      let any : list_any (clashes (object x)) (map object xs) ≡ list_any (bytes_eq (name x)) (map name xs)
      = any_of object (clashes (object x)) (λ y. bytes_eq (name x) (name y)) (same x) xs ∙ sym (any_of name (bytes_eq (name x)) (λ y. bytes_eq (name x) (name y)) (λ y. refl) xs) in
      rw (any, t.0) (apart_objects name same xs t.1)

  more : (k : ℕ) → ((x : R) → kind_number (object x).kind ≡ k) → (test : R → Bool) → ((x : R) → test x ≡ true → IsFit (object x)) → (os : List Object) → AreFit k os
      → (xs : List R) → list_all test xs ≡ true → all_apart clashes (map object xs) ≡ true → AreFit (suc k) (os ++ map object xs)
  more k same test fit os h xs checked apart = record {
    prints = list_all-append may_print_object os (map object xs) ∙ rw (h.prints, all_print test fit xs checked) refl;
    right = list_all-append is_object_right os (map object xs) ∙ rw (h.right, all_right test fit xs checked) refl;
    apart = apart_both clashes os (map object xs) h.apart apart (all_clash k same os h.below xs);
    below = list_all-append (is_below (suc k)) os (map object xs) ∙ rw (below_more k os h.below, all_below k same xs) refl;
  }

-- ---- a file

distinct_of : (names : List (List ℕ)) → are_proper_names names ≡ true → are_distinct_names names ≡ true
distinct_of names h = (and_parts (list_all is_proper_name names) (are_distinct_names names) h).1

os_alone : (o : OsRecord) → is_checked_os o ≡ true → AreFit 1 (os_object o ∷ [])
os_alone o h =
    let fit = os_fit o h in
    record { prints = rw fit.prints refl; right = rw fit.right refl; apart = refl; below = refl }

has_mode : (o : OsRecord) (names : List (List ℕ)) → not (is_empty names) ≡ true → (a b c d e f : List Object) → has_kind kind.AppMode (os_object o ∷ map mode_object names ++ a ++ b ++ c ++ d ++ e ++ f) ≡ true
has_mode o [] some a b c d e f = absurd cc
has_mode o (name ∷ names) some a b c d e f = refl

module _ (c : Configuration) (h : CheckedParts c) where
  modes_some : not (is_empty c.app_modes) ≡ true
  modes_some = (and_parts (not (is_empty c.app_modes)) (list_all (is_object_name kind.AppMode) c.app_modes) (and_parts _ (are_proper_names c.app_modes) h.app_modes).0).0

  modes_named : list_all (is_object_name kind.AppMode) c.app_modes ≡ true
  modes_named = (and_parts (not (is_empty c.app_modes)) (list_all (is_object_name kind.AppMode) c.app_modes) (and_parts _ (are_proper_names c.app_modes) h.app_modes).0).1

  modes_distinct : are_distinct_names c.app_modes ≡ true
  modes_distinct = distinct_of c.app_modes (and_parts _ (are_proper_names c.app_modes) h.app_modes).1

  all_fit : AreFit 8 (objects_of c)
  all_fit =
      let t = and_parts (list_all is_checked_task c.tasks) (are_proper_names (map (λ x. x.name) c.tasks)) h.tasks in
      let i = and_parts (list_all is_checked_isr c.routines) (are_proper_names (map (λ x. x.name) c.routines)) h.routines in
      let r = and_parts (list_all is_checked_resource c.resources) (are_proper_names (map (λ x. x.name) c.resources)) h.resources in
      let e = and_parts (list_all is_checked_event c.events) (are_proper_names (map (λ x. x.name) c.events)) h.events in
      let n = and_parts (list_all is_checked_counter c.counters) (are_proper_names (map (λ x. x.name) c.counters)) h.counters in
      let a = and_parts (list_all is_checked_alarm c.alarms) (are_proper_names (map (λ x. x.name) c.alarms)) h.alarms in
      let f1 = more mode_object 1 (λ x. refl) (is_object_name kind.AppMode) mode_fit (os_object c.os ∷ []) (os_alone c.os h.os) c.app_modes modes_named (apart_names clashes mode_object (λ x y. refl) c.app_modes modes_distinct) in
      let f2 = more task_object 2 (λ x. refl) is_checked_task task_fit _ f1 c.tasks t.0 (apart_objects task_object (λ x. x.name) (λ x y. refl) c.tasks (distinct_of (map (λ x. x.name) c.tasks) t.1)) in
      let f3 = more isr_object 3 (λ x. refl) is_checked_isr isr_fit _ f2 c.routines i.0 (apart_objects isr_object (λ x. x.name) (λ x y. refl) c.routines (distinct_of (map (λ x. x.name) c.routines) i.1)) in
      let f4 = more resource_object 4 (λ x. refl) is_checked_resource resource_fit _ f3 c.resources r.0 (apart_objects resource_object (λ x. x.name) (λ x y. refl) c.resources (distinct_of (map (λ x. x.name) c.resources) r.1)) in
      let f5 = more event_object 5 (λ x. refl) is_checked_event event_fit _ f4 c.events e.0 (apart_objects event_object (λ x. x.name) (λ x y. refl) c.events (distinct_of (map (λ x. x.name) c.events) e.1)) in
      let f6 = more counter_object 6 (λ x. refl) is_checked_counter counter_fit _ f5 c.counters n.0 (apart_objects counter_object (λ x. x.name) (λ x y. refl) c.counters (distinct_of (map (λ x. x.name) c.counters) n.1)) in
      more alarm_object 7 (λ x. refl) is_checked_alarm alarm_fit _ f6 c.alarms a.0 (apart_objects alarm_object (λ x. x.name) (λ x y. refl) c.alarms (distinct_of (map (λ x. x.name) c.alarms) a.1))

  pub checked_prints : may_print (tree_of c) ≡ true
  checked_prints = rw (h.cpu, all_fit.prints) refl

  pub checked_right : is_file_right (tree_of c) ≡ true
  checked_right =
      rw (
        all_fit.right,
        all_fit.apart,
        has_mode c.os c.app_modes modes_some (map task_object c.tasks) (map isr_object c.routines) (map resource_object c.resources) (map event_object c.events) (map counter_object c.counters) (map alarm_object c.alarms),
      ) refl
