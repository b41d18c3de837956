-- The table some ticks later, where alarms are due in the last of them.
use Rattle.std.proofs.Common.{ℕ, zero, suc, ◌≡◌, ◌<◌, ◌≤◌, ◌+◌, ◌/◌, List, [], ◌∷◌, map, length, set, take, get_or, Option, None, Bool, true, false, ◌||◌, inl, inr, refl, sym, ◌∙◌, ap, ap₂, arith}
use Rattle.std.specs.List.{list_any}
use Rattle.std.proofs.lemmas.List.{length-set, get_or-set_same, get_or-set_other}
use Rattle.std.proofs.lemmas.List.Folds.{list_any_more}
use Rattle.std.proofs.lemmas.Bool.{cases_eq}
use Rattle.osek_base.specs.declared.task.Counter.{Counter}
use Rattle.osek_base.specs.declared.limits.TheConstants.{MAX_TICKS}
use Rattle.osek_base.specs.Lists.{below}
use Rattle.osek_base.specs.State.{Expiry}
use Rattle.osek_base.specs.Alarm.{is_due_at}
use Rattle.alarms.specs.declared.counter_alarms.CounterAlarms.{CounterAlarms}
use Rattle.alarms.specs.Alarms.{count_in, expired_at, is_due_in, later, once_expired}
use Rattle.alarms.specs.Waits.{is_raised}
use Rattle.alarms.specs.Counters.{no_alarms, count_of, expiry_in, IsReady, counter_at, number_of, counter_with, expiries_of, counters_of, table_of, AreWhole, AreAdvanced}
use Rattle.alarms.proofs.TableLemmas.{map_same}
use Rattle.alarms.proofs.PlaceLemmas.{length-expiries, expiry_there, counter_there}

-- ---- a test that only one counter passes

or_false : (b : Bool) → (b || false) ≡ b
or_false true = refl
or_false false = refl

none_of : (test : CounterAlarms → Bool) (ks : List CounterAlarms) → ((k : ℕ) → k < length ks → test (counter_at ks k) ≡ false) → list_any test ks ≡ false
none_of test [] none = refl
none_of test (c ∷ ks) none =
    let rest = none_of test ks (λ k inside. none (suc k) (omega arith)) in
    rw (none 0 (omega arith), rest) refl

any_own : (test : CounterAlarms → Bool) (ks : List CounterAlarms) (p : ℕ) → p < length ks
    → ((k : ℕ) → k < length ks → (k ≡ p → ⊥) → test (counter_at ks k) ≡ false)
    → list_any test ks ≡ test (counter_at ks p)
any_own test [] p low away = absurd (omega arith)
any_own test (c ∷ ks) zero low away =
    let rest : list_any test ks ≡ false = none_of test ks (λ k inside. away (suc k) (omega arith) (omega arith)) in
    rw rest (or_false (test c))
any_own test (c ∷ ks) (suc p) low away =
    let first : test c ≡ false = away 0 (omega arith) (omega arith) in
    let rest = any_own test ks p (omega arith) (λ k inside other. away (suc k) (omega arith) (λ same. other (omega arith))) in
    rw first rest

-- ---- some ticks

-- the first counters have gone through them, and the rest are as they were
pub record AreThrough (tick n : ℕ) (old new : List CounterAlarms) (before flags : ℕ) (i : ℕ) : Type 0 where
  pub same : length new ≡ length old
  pub ready : (k : ℕ) → k < i → IsReady (tick + n) (counter_at new k)
  pub counters : (k : ℕ) → k < i → (counter_at new k).counter ≡ (counter_at old k).counter
  pub expiries : (k a : ℕ) → k < i
      → expiry_in (tick + n) (counter_at new k) a ≡ expired_at (count_of (tick + n) (counter_at old k)) (expiry_in tick (counter_at old k) a)
  pub rest : (k : ℕ) → i ≤ k → counter_at new k ≡ counter_at old k
  pub raised : (a : ℕ) → is_raised a flags
      ≡ (is_raised a before || list_any (λ k. is_due_at (count_of (tick + n) k) (expiry_in tick k a)) (take i old))

-- one counter has
pub record IsThrough (tick n : ℕ) (old new : CounterAlarms) (before flags : ℕ) : Type 0 where
  pub ready : IsReady (tick + n) new
  pub counter : new.counter ≡ old.counter
  pub expiries : (a : ℕ) → expiry_in (tick + n) new a ≡ expired_at (count_of (tick + n) old) (expiry_in tick old a)
  pub raised : (a : ℕ) → is_raised a flags ≡ (is_raised a before || is_due_at (count_of (tick + n) old) (expiry_in tick old a))

or-assoc : (a b c : Bool) → ((a || b) || c) ≡ (a || (b || c))
or-assoc true b c = refl
or-assoc false b c = refl

module _ (tick n : ℕ) (old new : List CounterAlarms) (first before flags : ℕ) (i : ℕ) (x : CounterAlarms)
    (done : AreThrough tick n old new first before i) (low : i < length old) (one : IsThrough tick n (counter_at new i) x before flags) where
  next_here : (k : ℕ) → k ≡ i → counter_at (set new i x) k ≡ x
  next_here k is = rw is (get_or-set_same new i x no_alarms (omega (arith, done.same)))

  next_away : (k : ℕ) → (k ≡ i → ⊥) → counter_at (set new i x) k ≡ counter_at new k
  next_away k other = get_or-set_other new i k x no_alarms other

  was : (k : ℕ) → k ≡ i → counter_at new i ≡ counter_at old k
  was k is = done.rest i (omega arith) ∙ ap (counter_at old) (sym is)

  next_ready : (k : ℕ) → k < i + 1 → IsReady (tick + n) (counter_at (set new i x) k)
  next_ready k inside = elim (cases_eq k i) [
    | inl is ↦ rw (next_here k is) one.ready
    | inr other ↦ rw (next_away k other) (done.ready k (omega arith))
  ]

  next_counter : (k : ℕ) → k < i + 1 → (counter_at (set new i x) k).counter ≡ (counter_at old k).counter
  next_counter k inside = elim (cases_eq k i) [
    | inl is ↦ ap (λ (c : CounterAlarms). c.counter) (next_here k is) ∙ (one.counter ∙ ap (λ (c : CounterAlarms). c.counter) (was k is))
    | inr other ↦ ap (λ (c : CounterAlarms). c.counter) (next_away k other) ∙ done.counters k (omega arith)
  ]

  next_expiry : (k a : ℕ) → k < i + 1
      → expiry_in (tick + n) (counter_at (set new i x) k) a ≡ expired_at (count_of (tick + n) (counter_at old k)) (expiry_in tick (counter_at old k) a)
  next_expiry k a inside = elim (cases_eq k i) [
    | inl is ↦
        ap (λ (c : CounterAlarms). expiry_in (tick + n) c a) (next_here k is)
        ∙ (one.expiries a ∙ ap (λ (c : CounterAlarms). expired_at (count_of (tick + n) c) (expiry_in tick c a)) (was k is))
    | inr other ↦ ap (λ (c : CounterAlarms). expiry_in (tick + n) c a) (next_away k other) ∙ done.expiries k a (omega arith)
  ]

  abbrev due_test : ℕ → CounterAlarms → Bool
  due_test a k = is_due_at (count_of (tick + n) k) (expiry_in tick k a)

  next_raised : (a : ℕ) → is_raised a flags ≡ (is_raised a first || list_any (due_test a) (take (i + 1) old))
  next_raised a =
      let more : list_any (due_test a) (take (i + 1) old) ≡ (list_any (due_test a) (take i old) || due_test a (counter_at old i)) =
      list_any_more (due_test a) old i no_alarms low in
      one.raised a
      ∙ (ap₂ (λ (p q : Bool). p || q) (done.raised a) (ap (due_test a) (was i refl))
      ∙ (or-assoc (is_raised a first) (list_any (due_test a) (take i old)) (due_test a (counter_at old i)) ∙ ap (λ (p : Bool). is_raised a first || p) (sym more)))

  pub through_next : AreThrough tick n old (set new i x) first flags (i + 1)
  through_next = record {
    same = length-set new i x ∙ done.same;
    ready = next_ready;
    counters = next_counter;
    expiries = next_expiry;
    rest = λ k low. next_away k (λ (is : k ≡ i). omega arith) ∙ done.rest k (omega arith);
    raised = next_raised;
  }

-- counters with other alarms are the same counters
pub same_counters : (ks new : List CounterAlarms) (ns : List ℕ)
    → ((k : ℕ) → k < length ks → (counter_at new k).counter ≡ (counter_at ks k).counter)
    → ((a : ℕ) → a < length ns → number_of ns a < length ks) → counters_of new ns ≡ counters_of ks ns
same_counters ks new [] same known = refl
same_counters ks new (n ∷ ns) same known =
    ap₂ (λ (c : Counter) (cs : List Counter). c ∷ cs) (same n (known 0 (omega arith)))
    (same_counters ks new ns same (λ a inside. known (suc a) (omega arith)))

module _ (tick n : ℕ) (ks new : List CounterAlarms) (numbers : List ℕ) (whole : AreWhole tick ks numbers) (all : AreAdvanced tick n ks new) where
  count_then : (a : ℕ) → a < length numbers
      → count_of (tick + n) (counter_with ks numbers a) ≡ count_in (later n (table_of tick ks numbers)) a
  count_then a low = ap (λ (c : Counter). (tick + n) / c.ticks_per_base) (sym (counter_there tick ks numbers a low))

  advanced_expiry : (a : ℕ) → a < length numbers
      → expiry_in (tick + n) (counter_with new numbers a) a
      ≡ expired_at (count_in (later n (table_of tick ks numbers)) a) (get_or (expiries_of tick ks numbers) a None)
  advanced_expiry a low =
      all.expiries (number_of numbers a) a (whole.known a low)
      ∙ ap₂ expired_at (count_then a low) (sym (expiry_there tick ks numbers a low))

  advanced_expiries : expiries_of (tick + n) new numbers ≡ (once_expired (later n (table_of tick ks numbers))).expiries
  advanced_expiries =
      map_same (λ a. expiry_in (tick + n) (counter_with new numbers a) a)
      (λ a. expired_at (count_in (later n (table_of tick ks numbers)) a) (get_or (expiries_of tick ks numbers) a None))
      (length numbers) advanced_expiry
      ∙ ap (λ m. map (λ a. expired_at (count_in (later n (table_of tick ks numbers)) a) (get_or (expiries_of tick ks numbers) a None)) (below m))
      (sym (length-expiries tick ks numbers))

  pub advanced_table : table_of (tick + n) new numbers ≡ once_expired (later n (table_of tick ks numbers))
  advanced_table =
      ap₂ (λ (es : List (Option Expiry)) (cs : List Counter). record { expiries = es; counters = cs; tick = tick + n })
      advanced_expiries (same_counters ks new numbers all.counters whole.known)

  pub advanced_whole : tick + n < MAX_TICKS → AreWhole (tick + n) new numbers
  advanced_whole early = record {
    early = early;
    few = whole.few;
    ready = λ k inside. all.ready k (omega (arith, all.same, inside));
    known = λ a low. omega (arith, all.same, whole.known a low);
    own = λ k a inside away.
        all.expiries k a (omega (arith, all.same, inside))
        ∙ ap (expired_at (count_of (tick + n) (counter_at ks k))) (whole.own k a (omega (arith, all.same, inside)) away);
  }

  abbrev due_on : ℕ → CounterAlarms → Bool
  due_on a k = is_due_at (count_of (tick + n) k) (expiry_in tick k a)

  due_away : (a k : ℕ) → k < length ks → (k ≡ number_of numbers a → ⊥) → due_on a (counter_at ks k) ≡ false
  due_away a k inside other =
      ap (is_due_at (count_of (tick + n) (counter_at ks k))) (whole.own k a inside (λ low same. other (sym same)))

  pub due_table : (flags a : ℕ) → a < length numbers
      → is_raised a flags ≡ list_any (λ k. is_due_at (count_of (tick + n) k) (expiry_in tick k a)) ks
      → is_raised a flags ≡ is_due_in (later n (table_of tick ks numbers)) a
  due_table flags a low raised =
      raised
      ∙ (any_own (due_on a) ks (number_of numbers a) (whole.known a low) (due_away a)
      ∙ ap₂ is_due_at (count_then a low) (sym (expiry_there tick ks numbers a low)))
