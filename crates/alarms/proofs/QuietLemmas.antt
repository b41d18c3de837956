-- Ticks in which no alarm is due: all counters, and the table.
use Rattle.std.proofs.Common.{ℕ, zero, suc, ◌≡◌, ◌<◌, ◌≤◌, ◌+◌, ◌/◌, List, [], ◌∷◌, take, length, set, Bool, true, false, inl, inr, refl, sym, ◌∙◌, ap, ap₂, subst, arith}
use Rattle.std.specs.List.{list_all}
use Rattle.std.proofs.lemmas.List.{get_or-set_other, get_or-set_same, length-set, take-set}
use Rattle.std.proofs.lemmas.List.Folds.{list_all_kept, list_all_more}
use Rattle.std.proofs.Math.Bool.{and-false}
use Rattle.std.proofs.lemmas.Bool.{cases_eq, cases_lt}
use Rattle.osek_base.specs.declared.task.Counter.{Counter}
use Rattle.osek_base.specs.Alarm.{is_due_at}
use Rattle.alarms.specs.declared.counter_alarms.CounterAlarms.{CounterAlarms}
use Rattle.alarms.specs.Alarms.{AreQuietFor, count_in, is_due_in, later}
use Rattle.alarms.specs.Counters.{AreWhole, IsReady, count_of, counter_at, counter_with, expiry_in, is_quiet_for, no_alarms, number_of, table_of}
use Rattle.alarms.proofs.PassLemmas.{none_due, quiet_at_once, quiet_further, quiet_sooner}
use Rattle.alarms.proofs.PlaceLemmas.{counter_there, expiry_there, length-expiries}

-- ---- how many ticks pass on all counters

pub record AreQuiet (tick most least : ℕ) (ks : List CounterAlarms) (i : ℕ) : Type 0 where
  pub few : least ≤ most
  pub quiet : (k : ℕ) → k < i → is_quiet_for tick least (counter_at ks k) ≡ true
  pub last : least < most → list_all (is_quiet_for tick (least + 1)) (take i ks) ≡ false

-- one counter more
pub record IsQuiet (tick least now : ℕ) (k : CounterAlarms) : Type 0 where
  pub few : now ≤ least
  pub quiet : is_quiet_for tick now k ≡ true
  pub last : now < least → is_quiet_for tick (now + 1) k ≡ false

pub quiet_next : (tick most least now : ℕ) (ks : List CounterAlarms) (i : ℕ)
    → ((k : ℕ) → k < i → IsReady tick (counter_at ks k)) → i < length ks
    → AreQuiet tick most least ks i → IsQuiet tick least now (counter_at ks i)
    → AreQuiet tick most now ks (i + 1)
quiet_next tick most least now ks i ready low done one = record {
  few = omega (arith, done.few, one.few);
  quiet = λ k inside. elim (cases_eq k i) [
    | inl is ↦ rw is one.quiet
    | inr other ↦ quiet_sooner tick least (counter_at ks k) (ready k (omega arith)) now one.few (done.quiet k (omega arith))
  ];
  last = λ some. elim (cases_lt now least) [
    | inl less ↦
        list_all_more (is_quiet_for tick (now + 1)) ks i no_alarms low
        ∙ rw (one.last less) (and-false (list_all (is_quiet_for tick (now + 1)) (take i ks)))
    | inr more ↦
        let same : least ≡ now = omega (arith, one.few) in
        list_all_kept (is_quiet_for tick (now + 1)) ks i (rw same at (done.last (omega arith)))
  ];
}

-- a counter that wasn't asked yet has become another one
quiet_set : (tick most least : ℕ) (ks : List CounterAlarms) (i : ℕ) (x : CounterAlarms)
    → AreQuiet tick most least ks i → AreQuiet tick most least (set ks i x) i
quiet_set tick most least ks i x done = record {
  few = done.few;
  quiet = λ k inside. rw (get_or-set_other ks i k x no_alarms (λ (is : k ≡ i). omega arith)) (done.quiet k inside);
  last = λ some. rw (take-set ks i x) (done.last some);
}

pub quiet_through : (tick most least now : ℕ) (ks : List CounterAlarms) (i : ℕ) (x : CounterAlarms)
    → ((k : ℕ) → k < i + 1 → IsReady tick (counter_at (set ks i x) k)) → i < length ks
    → AreQuiet tick most least ks i → IsQuiet tick least now x
    → AreQuiet tick most now (set ks i x) (i + 1)
quiet_through tick most least now ks i x ready low done one =
    quiet_next tick most least now (set ks i x) i (λ k inside. ready k (omega arith)) (omega (arith, length-set ks i x))
    (quiet_set tick most least ks i x done)
    (subst (IsQuiet tick least now) (sym (get_or-set_same ks i x no_alarms low)) one)

-- ---- the table

module _ (tick n : ℕ) (ks : List CounterAlarms) (numbers : List ℕ) (whole : AreWhole tick ks numbers) where
  count_then : (m a : ℕ) → a < length numbers
      → count_of (tick + m) (counter_with ks numbers a) ≡ count_in (later m (table_of tick ks numbers)) a
  count_then m a low = ap (λ (c : Counter). (tick + m) / c.ticks_per_base) (sym (counter_there tick ks numbers a low))

  due_same : (m a : ℕ) → a < length numbers
      → is_due_at (count_of (tick + m) (counter_with ks numbers a)) (expiry_in tick (counter_with ks numbers a) a)
      ≡ is_due_in (later m (table_of tick ks numbers)) a
  due_same m a low = ap₂ is_due_at (count_then m a low) (sym (expiry_there tick ks numbers a low))

  -- where the counters are quiet, the table is
  pub quiet_table : ((k : ℕ) → k < length ks → is_quiet_for tick n (counter_at ks k) ≡ true) → AreQuietFor n (table_of tick ks numbers)
  quiet_table quiet m few a inside =
      let low : a < length numbers = omega (arith, length-expiries tick ks numbers) in
      let known = whole.known a low in
      let ready = whole.ready (number_of numbers a) known in
      sym (due_same (m + 1) a low)
      ∙ none_due tick (m + 1) (counter_with ks numbers a) ready a
      (quiet_sooner tick n (counter_with ks numbers a) ready (m + 1) (omega arith) (quiet (number_of numbers a) known))

  -- and the other way round
  not_due_on : (m : ℕ) → m < n → AreQuietFor n (table_of tick ks numbers) → (k a : ℕ) → k < length ks
      → is_due_at (count_of (tick + (m + 1)) (counter_at ks k)) (expiry_in tick (counter_at ks k) a) ≡ false
  not_due_on m few quiet k a inside = elim (cases_lt a (length numbers)) [
    | inl low ↦ elim (cases_eq (number_of numbers a) k) [
      | inl is ↦
          subst (λ j. is_due_at (count_of (tick + (m + 1)) (counter_at ks j)) (expiry_in tick (counter_at ks j) a) ≡ false) is
          (due_same (m + 1) a low ∙ quiet m few a (omega (arith, length-expiries tick ks numbers)))
      | inr other ↦ ap (is_due_at (count_of (tick + (m + 1)) (counter_at ks k))) (whole.own k a inside (λ known same. other same))
    ]
    | inr high ↦ ap (is_due_at (count_of (tick + (m + 1)) (counter_at ks k))) (whole.own k a inside (λ known same. omega arith))
  ]

  quiet_up_to : (m : ℕ) → m ≤ n → AreQuietFor n (table_of tick ks numbers) → (k : ℕ) → k < length ks
      → is_quiet_for tick m (counter_at ks k) ≡ true
  quiet_up_to zero few quiet k inside = quiet_at_once tick (counter_at ks k) (whole.ready k inside)
  quiet_up_to (suc m) few quiet k inside =
      let one : m + 1 ≡ suc m = omega arith in
      subst (λ i. is_quiet_for tick i (counter_at ks k) ≡ true) one
      (quiet_further tick m (counter_at ks k) (whole.ready k inside) (quiet_up_to m (omega arith) quiet k inside)
      (λ a. not_due_on m (omega arith) quiet k a inside))

  pub counters_quiet : AreQuietFor n (table_of tick ks numbers) → (k : ℕ) → k < length ks → is_quiet_for tick n (counter_at ks k) ≡ true
  counters_quiet quiet k inside = quiet_up_to n (omega arith) quiet k inside

all_pass : (test : CounterAlarms → Bool) (ks : List CounterAlarms) → ((k : ℕ) → k < length ks → test (counter_at ks k) ≡ true)
    → list_all test ks ≡ true
all_pass test [] each = refl
all_pass test (k ∷ ks) each = rw (each 0 (omega arith)) (all_pass test ks (λ j inside. each (suc j) (omega arith)))

pub all_quiet : (tick n : ℕ) (ks : List CounterAlarms) (numbers : List ℕ) → AreWhole tick ks numbers → AreQuietFor n (table_of tick ks numbers)
    → list_all (is_quiet_for tick n) ks ≡ true
all_quiet tick n ks numbers whole quiet = all_pass (is_quiet_for tick n) ks (counters_quiet tick n ks numbers whole quiet)
