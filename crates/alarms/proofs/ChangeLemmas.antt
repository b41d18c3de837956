-- The table where an alarm is set or goes off.
use Rattle.std.proofs.Common.{ℕ, ◌≡◌, ◌<◌, ◌≤◌, ◌+◌, List, [], ◌∷◌, length, set, get_or, Option, None, Some, Bool, true, false, ◌||◌, cond, eqb, ltb, inl, inr, refl, sym, ◌∙◌, ap, ap₂, arith}
use Rattle.std.proofs.lemmas.List.{length-set, ext_get_or, get_or-set_same, get_or-set_other}
use Rattle.std.proofs.lemmas.Bool.{cases_Bool, cases_eq, cases_lt, eqb-true, ne_eqb, lt-ltb}
use Rattle.std.proofs.lemmas.Bool.Decides.{nat_tests}
use Rattle.osek_base.specs.declared.limits.TheConstants.{MAX_ALARMS}
use Rattle.osek_base.specs.declared.task.Counter.{Counter}
use Rattle.osek_base.specs.State.{Expiry}
use Rattle.alarms.specs.declared.counter_alarms.CounterAlarms.{CounterAlarms}
use Rattle.alarms.specs.Alarms.{AlarmTable, count_in}
use Rattle.alarms.specs.Waits.{Wait, wait_of, expiry_at, has, are_low, inserted, without}
use Rattle.alarms.specs.Counters.{no_alarms, count_of, expiry_in, IsReady, counter_at, number_of, counter_with, expiries_of, counters_of, table_of, AreWhole, IsChanged}
use Rattle.alarms.proofs.ExpiryLemmas.{apart-inserted}
use Rattle.alarms.proofs.CountLemmas.{has_room, set_expiry, cancelled_expiry, ahead-inserted, ahead-without, apart-without}
use Rattle.alarms.proofs.PlaceLemmas.{length-expiries, expiry_there, count_there}

eqb-same : (n : ℕ) → eqb n n ≡ true
eqb-same n = grind (arith, nat_tests)

module _ (tick : ℕ) (ks : List CounterAlarms) (numbers : List ℕ) (a : ℕ) (new : CounterAlarms) (e : Option Expiry)
    (whole : AreWhole tick ks numbers) (low : a < length numbers)
    (change : IsChanged tick (counter_with ks numbers a) new a e) where
  within : number_of numbers a < length ks
  within = whole.known a low

  changed_here : (k : ℕ) → k ≡ number_of numbers a → counter_at (set ks (number_of numbers a) new) k ≡ new
  changed_here k is = rw is (get_or-set_same ks (number_of numbers a) new no_alarms within)

  changed_away : (k : ℕ) → (k ≡ number_of numbers a → ⊥) → counter_at (set ks (number_of numbers a) new) k ≡ counter_at ks k
  changed_away k other = get_or-set_other ks (number_of numbers a) k new no_alarms other

  changed_counter : (k : ℕ) → (counter_at (set ks (number_of numbers a) new) k).counter ≡ (counter_at ks k).counter
  changed_counter k = elim (cases_eq k (number_of numbers a)) [
    | inl is ↦
        ap (λ (c : CounterAlarms). c.counter) (changed_here k is) ∙ (change.counter ∙ ap (λ n. (counter_at ks n).counter) (sym is))
    | inr other ↦ ap (λ (c : CounterAlarms). c.counter) (changed_away k other)
  ]

  changed_ready : (k : ℕ) → k < length ks → IsReady tick (counter_at (set ks (number_of numbers a) new) k)
  changed_ready k inside = elim (cases_eq k (number_of numbers a)) [
    | inl is ↦ rw (changed_here k is) change.ready
    | inr other ↦ rw (changed_away k other) (whole.ready k inside)
  ]

  -- the expiry of any alarm on any counter, where a runs on its own alone
  changed_expiry : (k b : ℕ) → k ≡ number_of numbers a
      → expiry_in tick (counter_at (set ks (number_of numbers a) new) k) b ≡ cond (eqb a b) e (expiry_in tick (counter_at ks k) b)
  changed_expiry k b is =
      ap (λ (c : CounterAlarms). expiry_in tick c b) (changed_here k is)
      ∙ (change.expiries b ∙ ap (λ n. cond (eqb a b) e (expiry_in tick (counter_at ks n) b)) (sym is))

  changed_own : (k b : ℕ) → k < length ks → (b < length numbers → number_of numbers b ≡ k → ⊥)
      → expiry_in tick (counter_at (set ks (number_of numbers a) new) k) b ≡ None
  changed_own k b inside other = elim (cases_eq k (number_of numbers a)) [
    | inl is ↦ elim (cases_Bool (eqb a b)) [
      | inl same ↦
          let equal : a ≡ b = eqb-true a b same in
          let there : number_of numbers b ≡ k = rw (← equal) (sym is) in
          absurd (other (omega arith) there)
      | inr apart ↦ changed_expiry k b is ∙ rw apart (whole.own k b inside other)
    ]
    | inr away ↦ ap (λ (c : CounterAlarms). expiry_in tick c b) (changed_away k away) ∙ whole.own k b inside other
  ]

  pub changed_whole : AreWhole tick (set ks (number_of numbers a) new) numbers
  changed_whole =
      let long : length (set ks (number_of numbers a) new) ≡ length ks = length-set ks (number_of numbers a) new in
      record {
        early = whole.early;
        few = whole.few;
        ready = λ k inside. changed_ready k (omega arith);
        known = λ b inside. rw long (whole.known b inside);
        own = λ k b inside other. changed_own k b (omega arith) other;
      }

  changed_one : (b : ℕ) → expiry_in tick (counter_with (set ks (number_of numbers a) new) numbers b) b
      ≡ cond (eqb a b) e (expiry_in tick (counter_with ks numbers b) b)
  changed_one b = elim (cases_eq (number_of numbers b) (number_of numbers a)) [
    | inl is ↦ changed_expiry (number_of numbers b) b is
    | inr away ↦
        let apart : eqb a b ≡ false = ne_eqb a b (λ (same : a ≡ b). away (ap (number_of numbers) (sym same))) in
        ap (λ (c : CounterAlarms). expiry_in tick c b) (changed_away (number_of numbers b) away) ∙ rw apart refl
  ]

  changed_at : (b : ℕ) → b < length numbers
      → get_or (expiries_of tick (set ks (number_of numbers a) new) numbers) b None ≡ get_or (set (expiries_of tick ks numbers) a e) b None
  changed_at b inside =
      let now = expiry_there tick (set ks (number_of numbers a) new) numbers b inside ∙ changed_one b in
      elim (cases_eq b a) [
        | inl same ↦
            let here : eqb a b ≡ true = rw same (eqb-same a) in
            let old : get_or (set (expiries_of tick ks numbers) a e) b None ≡ e =
            rw same (get_or-set_same (expiries_of tick ks numbers) a e None (omega (arith, length-expiries tick ks numbers))) in
            now ∙ (rw here (sym old))
        | inr apart ↦
            let away : eqb a b ≡ false = ne_eqb a b (λ (same : a ≡ b). apart (sym same)) in
            let old : get_or (set (expiries_of tick ks numbers) a e) b None ≡ expiry_in tick (counter_with ks numbers b) b =
            get_or-set_other (expiries_of tick ks numbers) a b e None apart ∙ expiry_there tick ks numbers b inside in
            now ∙ (rw away (sym old))
      ]

  pub changed_expiries : expiries_of tick (set ks (number_of numbers a) new) numbers ≡ set (expiries_of tick ks numbers) a e
  changed_expiries =
      let long = length-expiries tick (set ks (number_of numbers a) new) numbers in
      let old_long = length-set (expiries_of tick ks numbers) a e ∙ length-expiries tick ks numbers in
      ext_get_or None (expiries_of tick (set ks (number_of numbers a) new) numbers) (set (expiries_of tick ks numbers) a e)
      (long ∙ sym old_long) (λ b inside. changed_at b (omega arith))

  counters_kept : (ns : List ℕ) → counters_of (set ks (number_of numbers a) new) ns ≡ counters_of ks ns
  counters_kept [] = refl
  counters_kept (n ∷ ns) = ap₂ (λ (c : Counter) (cs : List Counter). c ∷ cs) (changed_counter n) (counters_kept ns)

  pub changed_table : table_of tick (set ks (number_of numbers a) new) numbers
      ≡ record (table_of tick ks numbers) { expiries = set (expiries_of tick ks numbers) a e }
  changed_table =
      ap₂ (λ (es : List (Option Expiry)) (cs : List Counter). record { expiries = es; counters = cs; tick = tick }) changed_expiries (counters_kept numbers)

-- ---- what becomes of one counter

some_none : (e : Expiry) → Some e ≡ None → ⊥
some_none e is = absurd (cc)

pub none_has : (n : ℕ) (ws : List Wait) (a : ℕ) → expiry_at n (wait_of a ws) ≡ None → has a ws ≡ false
none_has n [] a off = refl
none_has n (w ∷ ws) a off = elim (cases_Bool (eqb w.alarm a)) [
  | inl here ↦
      absurd (some_none (record { count = n + w.left; cycle = w.cycle }) (rw here at off))
  | inr away ↦
      let others : expiry_at n (wait_of a ws) ≡ None = rw away at off in
      rw (away, none_has n ws a others) refl
]

true_false : (a b : Bool) → a ≡ true → (a || b) ≡ false → ⊥
true_false true b h none = absurd (cc)
true_false false b h none = absurd (cc)

none_behind : (n : ℕ) (w : Wait) (ws : List Wait) (a : ℕ) → expiry_at n (wait_of a (w ∷ ws)) ≡ None → expiry_at n (wait_of a ws) ≡ None
none_behind n w ws a off = elim (cases_Bool (eqb w.alarm a)) [
  | inl here ↦
      absurd (some_none (record { count = n + w.left; cycle = w.cycle }) (rw here at off))
  | inr away ↦ rw away at off
]

low_where : (n high : ℕ) (ws : List Wait) → ((a : ℕ) → high ≤ a → expiry_at n (wait_of a ws) ≡ None) → are_low high ws ≡ true
low_where n high [] none = refl
low_where n high (w ∷ ws) none =
    let first : ltb w.alarm high ≡ true = elim (cases_lt w.alarm high) [
      | inl low ↦ lt-ltb w.alarm high low
      | inr over ↦
          let not_there : has w.alarm (w ∷ ws) ≡ false = none_has n (w ∷ ws) w.alarm (none w.alarm (omega arith)) in
          let there : eqb w.alarm w.alarm ≡ true = eqb-same w.alarm in
          absurd (true_false (eqb w.alarm w.alarm) (has w.alarm ws) there not_there)
    ] in
    rw (first, low_where n high ws (λ a over. none_behind n w ws a (none a over))) refl

pub room_there : (tick : ℕ) (ks : List CounterAlarms) (numbers : List ℕ) (a : ℕ) → AreWhole tick ks numbers → a < length numbers
    → expiry_in tick (counter_with ks numbers a) a ≡ None → length (counter_with ks numbers a).running < MAX_ALARMS
room_there tick ks numbers a whole low off =
    let k = number_of numbers a in
    let ready : IsReady tick (counter_with ks numbers a) = whole.ready (number_of numbers a) (whole.known a low) in
    let all_low : are_low MAX_ALARMS (counter_with ks numbers a).running ≡ true =
    low_where (count_of tick (counter_with ks numbers a)) MAX_ALARMS (counter_with ks numbers a).running
    (λ b over. whole.own (number_of numbers a) b (whole.known a low) (λ within same. absurd (omega (arith, whole.few)))) in
    has_room MAX_ALARMS (counter_with ks numbers a).running a (omega (arith, whole.few)) all_low ready.apart
    (none_has (count_of tick (counter_with ks numbers a)) (counter_with ks numbers a).running a off)

pub set_change : (tick : ℕ) (k : CounterAlarms) (t : Wait) → IsReady tick k → expiry_in tick k t.alarm ≡ None → 0 < t.left
    → IsChanged tick k (record k { running = inserted t k.running }) t.alarm (Some (record { count = count_of tick k + t.left; cycle = t.cycle }))
set_change tick k t ready off more =
    let none = none_has (count_of tick k) k.running t.alarm off in
    record {
      ready = record {
        base = ready.base;
        round = ready.round;
        next_is = ready.next_is;
        ahead = ahead-inserted k.running t more ready.ahead;
        apart = apart-inserted k.running t none ready.apart;
      };
      counter = refl;
      expiries = λ b. set_expiry (count_of tick k) k.running t b none;
    }

pub cancel_change : (tick : ℕ) (k : CounterAlarms) (a : ℕ) → IsReady tick k
    → IsChanged tick k (record k { running = without a k.running }) a None
cancel_change tick k a ready = record {
  ready = record {
    base = ready.base;
    round = ready.round;
    next_is = ready.next_is;
    ahead = ahead-without k.running a ready.ahead;
    apart = apart-without k.running a ready.apart;
  };
  counter = refl;
  expiries = λ b. cancelled_expiry (count_of tick k) k.running a b ready.apart;
}

-- ---- the counter of an alarm in its place

pub off_there : (tick : ℕ) (ks : List CounterAlarms) (numbers : List ℕ) (t : AlarmTable) (a : ℕ) → table_of tick ks numbers ≡ t
    → a < length numbers → get_or t.expiries a None ≡ None → expiry_in tick (counter_with ks numbers a) a ≡ None
off_there tick ks numbers t a is low off =
    sym (expiry_there tick ks numbers a low) ∙ (ap (λ (u : AlarmTable). get_or u.expiries a None) is ∙ off)

module _ (tick : ℕ) (ks : List CounterAlarms) (numbers : List ℕ) (t : Wait) (whole : AreWhole tick ks numbers) (low : t.alarm < length numbers)
    (off : expiry_in tick (counter_with ks numbers t.alarm) t.alarm ≡ None) (more : 0 < t.left) where
  set_there : IsChanged tick (counter_with ks numbers t.alarm)
      (record (counter_with ks numbers t.alarm) { running = inserted t (counter_with ks numbers t.alarm).running }) t.alarm
      (Some (record { count = count_of tick (counter_with ks numbers t.alarm) + t.left; cycle = t.cycle }))
  set_there =
      set_change tick (counter_with ks numbers t.alarm) t (whole.ready (number_of numbers t.alarm) (whole.known t.alarm low)) off more

  pub set_whole : AreWhole tick (set ks (number_of numbers t.alarm)
      (record (counter_with ks numbers t.alarm) { running = inserted t (counter_with ks numbers t.alarm).running })) numbers
  set_whole = changed_whole tick ks numbers t.alarm _ _ whole low set_there

  pub set_table : table_of tick (set ks (number_of numbers t.alarm)
      (record (counter_with ks numbers t.alarm) { running = inserted t (counter_with ks numbers t.alarm).running })) numbers
      ≡ record (table_of tick ks numbers) {
        expiries = set (expiries_of tick ks numbers) t.alarm (Some (record { count = count_in (table_of tick ks numbers) t.alarm + t.left; cycle = t.cycle }));
      }
  set_table = rw (count_there tick ks numbers t.alarm low) (changed_table tick ks numbers t.alarm _ _ whole low set_there)

module _ (tick : ℕ) (ks : List CounterAlarms) (numbers : List ℕ) (a : ℕ) (whole : AreWhole tick ks numbers) (low : a < length numbers) where
  cancel_there : IsChanged tick (counter_with ks numbers a)
      (record (counter_with ks numbers a) { running = without a (counter_with ks numbers a).running }) a None
  cancel_there = cancel_change tick (counter_with ks numbers a) a (whole.ready (number_of numbers a) (whole.known a low))

  pub cancel_whole : AreWhole tick (set ks (number_of numbers a)
      (record (counter_with ks numbers a) { running = without a (counter_with ks numbers a).running })) numbers
  cancel_whole = changed_whole tick ks numbers a _ _ whole low cancel_there

  pub cancel_table : table_of tick (set ks (number_of numbers a)
      (record (counter_with ks numbers a) { running = without a (counter_with ks numbers a).running })) numbers
      ≡ record (table_of tick ks numbers) { expiries = set (expiries_of tick ks numbers) a None }
  cancel_table = changed_table tick ks numbers a _ _ whole low cancel_there
