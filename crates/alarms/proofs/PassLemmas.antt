-- Ticks that pass at once: counts, and the alarms of one counter.
use Rattle.std.proofs.Common.{not, ℕ, zero, suc, ◌≡◌, ◌<◌, ◌≤◌, ◌+◌, ◌-◌, ◌*◌, ◌/◌, ◌%◌, List, [], ◌∷◌, map, true, false, inl, inr, refl, sym, ◌∙◌, ap, subst, arith, eqb, leb, ltb}
use Rattle.std.specs.List.{list_all, list_any}
use Rattle.std.proofs.lemmas.Nat.{div-mul-add, div-add-mod'}
use Rattle.std.proofs.Math.Nat.{div-lt_iff_lt-mul, le-div_iff_mul-le, lt-div-mul-add, div-mul-le_self, le_of_mul-le-mul_right, mod-lt}
use Rattle.std.proofs.lemmas.Bool.{cases_Bool, and_parts, eqb-true, leb-true, ltb-true, lt-ltb, ne_eqb, not-true}
use Rattle.std.proofs.lemmas.Bool.Decides.{nat_tests}
use Rattle.std.proofs.Math.Bool.{and-false}
use Rattle.osek_base.specs.Alarm.{is_due_at}
use Rattle.alarms.specs.declared.counter_alarms.CounterAlarms.{CounterAlarms}
use Rattle.alarms.specs.Waits.{Wait, IsSoonest, again, are_ahead, are_apart, are_beyond, expiry_at, has, is_over, less_by, wait_of}
use Rattle.alarms.specs.Alarms.{expired_at}
use Rattle.alarms.proofs.CountLemmas.{grown_due, grown_expiry}
use Rattle.alarms.proofs.ExpiryLemmas.{none_there}
use Rattle.alarms.specs.Counters.{IsReady, count_of, expiry_in, growth, is_quiet_for}

-- ---- some counts pass

-- no alarm is due at a count that is reached before any wait is over
pub not_due_by : (c m : ℕ) (ws : List Wait) (a : ℕ) → c ≤ m → are_beyond (m - c) ws ≡ true
    → is_due_at m (expiry_at c (wait_of a ws)) ≡ false
not_due_by c m [] a later beyond = refl
not_due_by c m (w ∷ ws) a later beyond =
    let parts = and_parts (ltb (m - c) w.left) (are_beyond (m - c) ws) beyond in
    let more : m - c < w.left = ltb-true (m - c) w.left parts.0 in
    let other : eqb (c + w.left) m ≡ false = ne_eqb (c + w.left) m (λ (e : c + w.left ≡ m). omega arith) in
    elim (cases_Bool (eqb w.alarm a)) [
      | inl here ↦ rw (here, other) refl
      | inr away ↦ rw away (not_due_by c m ws a later parts.1)
    ]

beyond_less : (n m : ℕ) (ws : List Wait) → n ≤ m → are_beyond m ws ≡ true → are_beyond n ws ≡ true
beyond_less n m [] low beyond = refl
beyond_less n m (w ∷ ws) low beyond =
    let parts = and_parts (ltb m w.left) (are_beyond m ws) beyond in
    let more : m < w.left = ltb-true m w.left parts.0 in
    let first : ltb n w.left ≡ true = lt-ltb n w.left (omega arith) in
    rw first (beyond_less n m ws low parts.1)

before_least : (n m : ℕ) (ws : List Wait) → n < m → list_all (λ w. leb m w.left) ws ≡ true → are_beyond n ws ≡ true
before_least n m [] low least = refl
before_least n m (w ∷ ws) low least =
    let parts = and_parts (leb m w.left) (list_all (λ v. leb m v.left) ws) least in
    let more : m ≤ w.left = leb-true m w.left parts.0 in
    let first : ltb n w.left ≡ true = lt-ltb n w.left (omega arith) in
    rw first (before_least n m ws low parts.1)

some_ahead : (n : ℕ) (ws : List Wait) → are_ahead ws ≡ true → list_any (λ w. eqb w.left n) ws ≡ true → 0 < n
some_ahead n [] ahead some = absurd (cc)
some_ahead n (w ∷ ws) ahead some =
    let parts = and_parts (ltb 0 w.left) (are_ahead ws) ahead in
    elim (cases_Bool (eqb w.left n)) [
      | inl here ↦ omega (arith, eqb-true w.left n here, ltb-true 0 w.left parts.0)
      | inr away ↦ some_ahead n ws parts.1 (rw away at some)
    ]

pub soonest_ahead : (n : ℕ) (ws : List Wait) → are_ahead ws ≡ true → IsSoonest n ws → 0 < n
soonest_ahead n ws ahead soonest = some_ahead n ws ahead soonest.some

not_lower : (a n : ℕ) → eqb a n ≡ true → ltb n a ≡ false
not_lower a n same = grind (arith, nat_tests)

-- where so many counts are left of some wait, it is over after them
over_then : (n : ℕ) (ws : List Wait) → list_any (λ w. eqb w.left n) ws ≡ true → are_beyond n ws ≡ false
over_then n [] some = absurd (cc)
over_then n (w ∷ ws) some = elim (cases_Bool (eqb w.left n)) [
  | inl here ↦
      let low : ltb n w.left ≡ false = not_lower w.left n here in
      rw low refl
  | inr away ↦
      let rest : are_beyond n ws ≡ false = over_then n ws (rw away at some) in
      rw rest (and-false (ltb n w.left))
]

below_it : (a m : ℕ) → eqb a m ≡ false → m ≤ a → m < a
below_it a m other low = grind (arith, nat_tests)

-- where no alarm is due at the next count, no wait is over after it
beyond_next : (c m g : ℕ) (ws : List Wait) → are_apart ws ≡ true → are_beyond g ws ≡ true → m ≤ c + g + 1
    → ((a : ℕ) → is_due_at m (expiry_at c (wait_of a ws)) ≡ false) → are_beyond (m - c) ws ≡ true
beyond_next c m g [] apart beyond low none = refl
beyond_next c m g (w ∷ ws) apart beyond low none =
    let parts = and_parts (not (has w.alarm ws)) (are_apart ws) apart in
    let alone : has w.alarm ws ≡ false = not-true _ parts.0 in
    let both = and_parts (ltb g w.left) (are_beyond g ws) beyond in
    let more : g < w.left = ltb-true g w.left both.0 in
    let mine : eqb w.alarm w.alarm ≡ true = grind (arith, nat_tests) in
    let other : eqb (c + w.left) m ≡ false = rw mine at (none w.alarm) in
    let after : m < c + w.left = below_it (c + w.left) m other (omega arith) in
    let first : ltb (m - c) w.left ≡ true = lt-ltb (m - c) w.left (omega arith) in
    let rest : (a : ℕ) → is_due_at m (expiry_at c (wait_of a ws)) ≡ false = λ a. elim (cases_Bool (eqb w.alarm a)) [
      | inl here ↦
          let gone : has a ws ≡ false = rw (eqb-true w.alarm a here) at alone in
          rw (none_there ws a gone) refl
      | inr away ↦ rw away at (none a)
    ] in
    rw first (beyond_next c m g ws parts.1 both.1 low rest)

-- ---- counts

-- the count doesn't fall
count_later : (t n m b : ℕ) → 0 < b → n ≤ m → (t + n) / b ≤ (t + m) / b
count_later t n m b base low =
    let whole : (t + n) / b * b ≤ t + n = div-mul-le_self (t + n) b in
    (le-div_iff_mul-le base).1 (omega arith)

-- the count after some ticks, where the counter doesn't grow in them, and where it does
count_within : (t n b : ℕ) → 0 < b → t + n < t / b * b + b → (t + n) / b ≡ t / b
count_within t n b base low =
    let whole = div-add-mod' t b in
    let rest : t % b + n < b = omega arith in
    let is : t + n ≡ t / b * b + (t % b + n) = omega arith in
    ap (λ k. k / b) is ∙ div-mul-add (t / b) b (t % b + n) rest

count_sum : (c q r b : ℕ) → r < b → (c * b + b + (q * b + r)) / b ≡ c + (q + 1)
count_sum c q r b low =
    let is : c * b + b + (q * b + r) ≡ (c + (q + 1)) * b + r = grind arith in
    ap (λ k. k / b) is ∙ div-mul-add (c + (q + 1)) b r low

count_after : (t n b : ℕ) → 0 < b → t / b * b + b ≤ t + n
    → (t + n) / b ≡ t / b + ((t + n - (t / b * b + b)) / b + 1)
count_after t n b base grown =
    let whole = div-add-mod' (t + n - (t / b * b + b)) b in
    let is : t + n ≡ t / b * b + b + ((t + n - (t / b * b + b)) / b * b + (t + n - (t / b * b + b)) % b) = omega arith in
    ap (λ k. k / b) is
    ∙ count_sum (t / b) ((t + n - (t / b * b + b)) / b) ((t + n - (t / b * b + b)) % b) b (mod-lt (t + n - (t / b * b + b)) base)

grown_more : (c q b : ℕ) → c * b + b + (q * b + b) ≡ (c + (q + 1)) * b + b
grown_more c q b = grind arith

-- the tick in which so many counts are reached
reached : (c b p : ℕ) → c * b + b + p * b ≡ (c + suc p) * b
reached c b p = grind arith

before_reached : (t n c b left : ℕ) → 0 < b → 0 < left → t + n < c * b + b + (left - 1) * b → (t + n) / b < c + left
before_reached t n c b zero base some low = absurd (omega arith)
before_reached t n c b (suc p) base some low =
    let one : suc p - 1 ≡ p = omega arith in
    let high : t + n < c * b + b + p * b = rw one at low in
    (div-lt_iff_lt-mul base).1 (subst (λ m. t + n < m) (reached c b p) high)

count_reached : (t m c b left : ℕ) → 0 < b → 0 < left → t + m ≡ c * b + b + (left - 1) * b → (t + m) / b ≡ c + left
count_reached t m c b zero base some is = absurd (omega arith)
count_reached t m c b (suc p) base some is =
    let one : suc p - 1 ≡ p = omega arith in
    let whole : t + m ≡ c * b + b + p * b = rw one at is in
    let none : (c + suc p) * b ≡ (c + suc p) * b + 0 = omega arith in
    ap (λ k. k / b) (whole ∙ reached c b p ∙ none) ∙ div-mul-add (c + suc p) b 0 base

count_next : (t n b : ℕ) → 0 < b → (t + (n + 1)) / b ≤ (t + n) / b + 1
count_next t n b base =
    let whole : (t + (n + 1)) / b * b ≤ t + (n + 1) = div-mul-le_self (t + (n + 1)) b in
    let high : t + n < (t + n) / b * b + b = lt-div-mul-add base in
    let times : ((t + n) / b + 1) * b ≡ (t + n) / b * b + b = grind arith in
    le_of_mul-le-mul_right (omega arith) base

count_last : (t n b : ℕ) → 0 < b → 0 < n → (t + n) / b ≤ (t + (n - 1)) / b + 1
count_last t zero b base some = absurd (omega arith)
count_last t (suc p) b base some =
    let one : suc p - 1 ≡ p = omega arith in
    let same : p + 1 ≡ suc p = omega arith in
    rw one (rw same at (count_next t p b base))

-- ---- the ticks of one counter

pub quiet_at_once : (t : ℕ) (k : CounterAlarms) → IsReady t k → is_quiet_for t 0 k ≡ true
quiet_at_once t k ready =
    let none : t + 0 ≡ t = omega arith in
    let same : t / k.counter.ticks_per_base - t / k.counter.ticks_per_base ≡ 0 = omega arith in
    rw (none, same) ready.ahead

module _ (t n : ℕ) (k : CounterAlarms) (ready : IsReady t k) where
  pub quiet_sooner : (m : ℕ) → m ≤ n → is_quiet_for t n k ≡ true → is_quiet_for t m k ≡ true
  quiet_sooner m low quiet =
      let falls = count_later t m n k.counter.ticks_per_base ready.base low in
      beyond_less (growth t m k) (growth t n k) k.running (omega arith) quiet

  pub count_at_least : count_of t k ≤ count_of (t + n) k
  count_at_least =
      let falls : (t + 0) / k.counter.ticks_per_base ≤ (t + n) / k.counter.ticks_per_base = count_later t 0 n k.counter.ticks_per_base ready.base (omega arith) in
      let same : t + 0 ≡ t = omega arith in
      rw same at falls

  pub next_ahead : t < k.next
  next_ahead = subst (λ m. t < m) (sym ready.next_is) (lt-div-mul-add ready.base)

  -- before the tick in which the soonest wait is over
  pub quiet_before : (left : ℕ) → IsSoonest left k.running → t + n < k.next + (left - 1) * k.counter.ticks_per_base
      → is_quiet_for t n k ≡ true
  quiet_before left soonest low =
      let high = subst (λ m. t + n < m + (left - 1) * k.counter.ticks_per_base) ready.next_is low in
      let some = soonest_ahead left k.running ready.ahead soonest in
      let below = before_reached t n (count_of t k) k.counter.ticks_per_base left ready.base some high in
      let least = count_at_least in
      before_least (growth t n k) left k.running (omega arith) soonest.least

  -- and not in that tick
  pub loud_then : (left m : ℕ) → IsSoonest left k.running → t + m ≡ k.next + (left - 1) * k.counter.ticks_per_base
      → is_quiet_for t m k ≡ false
  loud_then left m soonest is =
      let that = subst (λ x. t + m ≡ x + (left - 1) * k.counter.ticks_per_base) ready.next_is is in
      let some = soonest_ahead left k.running ready.ahead soonest in
      let count_is : count_of (t + m) k ≡ count_of t k + left = count_reached t m (count_of t k) k.counter.ticks_per_base left ready.base some that in
      let growth_is : growth t m k ≡ left = omega arith in
      rw growth_is (over_then left k.running soonest.some)

  -- where no alarm is due in the next tick either, it is quiet for that too
  pub quiet_further : is_quiet_for t n k ≡ true → ((a : ℕ) → is_due_at (count_of (t + (n + 1)) k) (expiry_in t k a) ≡ false)
      → is_quiet_for t (n + 1) k ≡ true
  quiet_further quiet none =
      let least = count_at_least in
      let few = count_next t n k.counter.ticks_per_base ready.base in
      beyond_next (count_of t k) (count_of (t + (n + 1)) k) (growth t n k) k.running ready.apart quiet (omega arith) none

  -- the counter doesn't grow
  pub stays : t + n < k.next → count_of (t + n) k ≡ count_of t k
  stays low = count_within t n k.counter.ticks_per_base ready.base (subst (λ m. t + n < m) ready.next_is low)

  pub ready_still : t + n < k.next → IsReady (t + n) k
  ready_still low = record {
    base = ready.base;
    round = ready.round;
    next_is = ready.next_is ∙ ap (λ c. c * k.counter.ticks_per_base + k.counter.ticks_per_base) (sym (stays low));
    ahead = ready.ahead;
    apart = ready.apart;
  }

  -- it grows
  module _ (grows : k.next ≤ t + n) where
    abbrev more : ℕ
    more = (t + n - k.next) / k.counter.ticks_per_base

    count_more : count_of (t + n) k ≡ count_of t k + (more + 1)
    count_more =
        subst (λ m. count_of (t + n) k ≡ count_of t k + ((t + n - m) / k.counter.ticks_per_base + 1)) (sym ready.next_is)
        (count_after t n k.counter.ticks_per_base ready.base (subst (λ m. m ≤ t + n) ready.next_is grows))

    pub quiet_more : 0 < n → is_quiet_for t (n - 1) k ≡ true → are_beyond ((t + n - k.next) / k.counter.ticks_per_base + 1 - 1) k.running ≡ true
    quiet_more some quiet =
        let grown = count_more in
        let last = count_last t n k.counter.ticks_per_base ready.base some in
        beyond_less (more + 1 - 1) (growth t (n - 1) k) k.running (omega arith) quiet

    pub ready_more : (ws : List Wait) → are_ahead ws ≡ true → are_apart ws ≡ true
        → IsReady (t + n) (record {
          counter = k.counter;
          next = k.next + ((t + n - k.next) / k.counter.ticks_per_base * k.counter.ticks_per_base + k.counter.ticks_per_base);
          running = ws;
        })
    ready_more ws ahead apart =
        record {
          base = ready.base;
          round = ready.round;
          next_is =
              ap (λ m. m + (more * k.counter.ticks_per_base + k.counter.ticks_per_base)) ready.next_is
              ∙ (grown_more (count_of t k) more k.counter.ticks_per_base
              ∙ ap (λ c. c * k.counter.ticks_per_base + k.counter.ticks_per_base) (sym count_more));
          ahead = ahead;
          apart = apart;
        }

    pub expiry_more : (ws : List Wait) (a : ℕ) → 0 < n → is_quiet_for t (n - 1) k ≡ true
        → wait_of a ws ≡ again (wait_of a (map (less_by ((t + n - k.next) / k.counter.ticks_per_base + 1)) k.running))
        → expiry_at (count_of (t + n) k) (wait_of a ws) ≡ expired_at (count_of (t + n) k) (expiry_in t k a)
    expiry_more ws a some quiet is =
        rw (is, count_more) (grown_expiry (count_of t k) (more + 1) k.running a (omega arith) (quiet_more some quiet))

    pub due_more : (a : ℕ) → 0 < n → is_quiet_for t (n - 1) k ≡ true
        → is_over (wait_of a (map (less_by ((t + n - k.next) / k.counter.ticks_per_base + 1)) k.running))
        ≡ is_due_at (count_of (t + n) k) (expiry_in t k a)
    due_more a some quiet =
        rw count_more (grown_due (count_of t k) (more + 1) k.running a (omega arith) (quiet_more some quiet))

  -- no alarm is due
  pub none_due : (a : ℕ) → is_quiet_for t n k ≡ true → is_due_at (count_of (t + n) k) (expiry_in t k a) ≡ false
  none_due a quiet = not_due_by (count_of t k) (count_of (t + n) k) k.running a count_at_least quiet
