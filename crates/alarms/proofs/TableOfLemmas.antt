-- The table of a system's alarms at later ticks: what is due, what has expired, and ticks in which nothing is due.
use Rattle.std.proofs.Common.{ℕ, zero, suc, ◌≡◌, ◌<◌, ◌≤◌, ◌+◌, List, [], ◌∷◌, ◌++◌, map, length, get_or, Option, None, Bool, false, inl, inr, refl, sym, ◌∙◌, ap, subst, arith, add-zero}
use Rattle.std.specs.List.{filter}
use Rattle.std.proofs.lemmas.Bool.{cases_Bool, cases_eq, cases_lt}
use Rattle.std.proofs.lemmas.List.{ext_get_or}
use Rattle.std.proofs.lemmas.List.Elements.{filter-append}
use Rattle.osek_base.specs.Lists.{below}
use Rattle.osek_base.specs.System.{System}
use Rattle.osek_base.specs.State.{Expiry}
use Rattle.osek_base.specs.Alarm.{count, expiry, is_due, is_due_at}
use Rattle.alarms.specs.Alarms.{AlarmTable, AreQuietFor, HavePassed, IsAheadOf, IsTableOf, count_in, due_of, expired, expired_at, is_due_in, later, next_tick, once_expired, state_of}
use Rattle.alarms.specs.Waits.{is_raised}
use Rattle.alarms.proofs.PlaceLemmas.{count_same}
use Rattle.alarms.proofs.TableLemmas.{at_below, filter_same, length-map-below, map_same}

-- ---- sums of ticks

pub later_none : (t : AlarmTable) → later 0 t ≡ t
later_none t = ap (λ n. record { expiries = t.expiries; counters = t.counters; tick = n }) (add-zero t.tick)

pub later_more : (n m : ℕ) (t : AlarmTable) → later m (later n t) ≡ later (n + m) t
later_more n m t =
    let same : t.tick + n + m ≡ t.tick + (n + m) = omega arith in
    ap (λ k. record { expiries = t.expiries; counters = t.counters; tick = k }) same

-- ---- the table alone and the system

pub due_in_same : (S : System) (t : AlarmTable) → IsTableOf S t → (a : ℕ) → a < length S.alarms → is_due_in t a ≡ is_due S (state_of S t) a
due_in_same S t table a low = ap (λ n. is_due_at n (get_or t.expiries a None)) (count_same S t a table low)

pub once_expired_is : (S : System) (t : AlarmTable) → IsTableOf S t → once_expired t ≡ expired S t
once_expired_is S t table =
    let same = map_same (λ a. expired_at (count_in t a) (get_or t.expiries a None)) (λ a. expired_at (count S (state_of S t) a) (expiry (state_of S t) a))
    (length S.alarms) (λ a low. ap (λ n. expired_at n (get_or t.expiries a None)) (count_same S t a table low)) in
    ap (λ (es : List (Option Expiry)). record { expiries = es; counters = t.counters; tick = t.tick })
    (ap (λ n. map (λ a. expired_at (count_in t a) (get_or t.expiries a None)) (below n)) table.expiries ∙ same)

pub due_listed : (S : System) (t : AlarmTable) (flags : ℕ) → IsTableOf S t
    → ((a : ℕ) → a < length t.expiries → is_raised a flags ≡ is_due_in t a)
    → filter (λ a. is_raised a flags) (below (length S.alarms)) ≡ due_of S t
due_listed S t flags table raised =
    filter_same (λ a. is_raised a flags) (is_due S (state_of S t)) (length S.alarms)
    (λ a low. raised a (omega (arith, table.expiries)) ∙ due_in_same S t table a low)

pub table_later : (S : System) (n : ℕ) (t : AlarmTable) → IsTableOf S t → IsTableOf S (later n t)
table_later S n t table = record { expiries = table.expiries; counters = table.counters }

pub table_back : (S : System) (n : ℕ) (t : AlarmTable) → IsTableOf S (later n t) → IsTableOf S t
table_back S n t table = record { expiries = table.expiries; counters = table.counters }

pub table_expired : (S : System) (t : AlarmTable) → IsTableOf S t → IsTableOf S (expired S t)
table_expired S t table = record {
  expiries = length-map-below (λ a. expired_at (count S (state_of S t) a) (expiry (state_of S t) a)) (length S.alarms);
  counters = table.counters;
}

-- ---- ticks in which no alarm is due

pub quiet_less : (n m : ℕ) (t : AlarmTable) → n ≤ m → AreQuietFor m t → AreQuietFor n t
quiet_less n m t low quiet k few a inside = quiet k (omega arith) a inside

-- so many of them passed
pub quiet_after : (n m : ℕ) (t : AlarmTable) → AreQuietFor (n + m) t → AreQuietFor m (later n t)
quiet_after n m t quiet k few a inside =
    let same : t.tick + (n + k + 1) ≡ t.tick + n + (k + 1) = omega arith in
    subst (λ i. is_due_in (record { expiries = t.expiries; counters = t.counters; tick = i }) a ≡ false) same
    (quiet (n + k) (omega arith) a inside)

pub quiet_next : (ahead quiet : ℕ) (t : AlarmTable) → IsAheadOf ahead quiet t → ahead < quiet → AreQuietFor 1 (later ahead t)
quiet_next ahead quiet t known more = quiet_after ahead 1 t (quiet_less (ahead + 1) quiet t (omega arith) known.none)

not_due_same : (n : ℕ) (e : Option Expiry) → is_due_at n e ≡ false → expired_at n e ≡ e
not_due_same n e none = rw none refl

-- where nothing is due, nothing expires
pub none_expired : (t : AlarmTable) → ((a : ℕ) → a < length t.expiries → is_due_in t a ≡ false) → once_expired t ≡ t
none_expired t none =
    let long = length-map-below (λ a. expired_at (count_in t a) (get_or t.expiries a None)) (length t.expiries) in
    ap (λ (es : List (Option Expiry)). record { expiries = es; counters = t.counters; tick = t.tick })
    (ext_get_or None (map (λ a. expired_at (count_in t a) (get_or t.expiries a None)) (below (length t.expiries))) t.expiries long (λ a inside.
    let low : a < length t.expiries = omega (arith, long) in
    at_below (λ b. expired_at (count_in t b) (get_or t.expiries b None)) None (length t.expiries) a low
    ∙ not_due_same (count_in t a) (get_or t.expiries a None) (none a low)))

none_of : (n : ℕ) → filter (λ a. false) (below n) ≡ []
none_of zero = refl
none_of (suc n) = rw (filter-append (λ a. false) (below n) (n ∷ []), none_of n) refl

pub none_due_of : (S : System) (t : AlarmTable) → IsTableOf S t → ((a : ℕ) → a < length t.expiries → is_due_in t a ≡ false) → due_of S t ≡ []
none_due_of S t table none =
    filter_same (is_due S (state_of S t)) (λ a. false) (length S.alarms)
    (λ a low. sym (due_in_same S t table a low) ∙ none a (omega (arith, table.expiries)))
    ∙ none_of (length S.alarms)

pub next_none : (t : AlarmTable) → AreQuietFor 1 t → (a : ℕ) → a < length t.expiries → is_due_in (next_tick t) a ≡ false
next_none t quiet a inside = quiet 0 (omega arith) a inside

pub next_due : (S : System) (t : AlarmTable) → IsTableOf S t → AreQuietFor 1 t → [] ≡ due_of S (next_tick t)
next_due S t table quiet = sym (none_due_of S (next_tick t) (table_later S 1 t table) (next_none t quiet))

pub next_expired : (S : System) (t : AlarmTable) → IsTableOf S t → AreQuietFor 1 t → next_tick t ≡ expired S (next_tick t)
next_expired S t table quiet =
    sym (none_expired (next_tick t) (next_none t quiet)) ∙ once_expired_is S (next_tick t) (table_later S 1 t table)

pub passed_expired : (n : ℕ) (t : AlarmTable) → 0 < n → AreQuietFor n t → once_expired (later n t) ≡ later n t
passed_expired zero t some quiet = absurd (omega arith)
passed_expired (suc n) t some quiet =
    let one : n + 1 ≡ suc n = omega arith in
    none_expired (later (suc n) t) (λ a inside. subst (λ m. is_due_in (later m t) a ≡ false) one (quiet n (omega arith) a inside))

nothing_left : (xs ys : List ℕ) → xs ++ ys ≡ [] → (xs ≡ []) × (ys ≡ [])
nothing_left [] ys none = (refl, none)
nothing_left (x ∷ xs) ys none = absurd (cc)

nothing_last : (p : ℕ → Bool) (n : ℕ) → filter p (n ∷ []) ≡ [] → p n ≡ false
nothing_last p n none = elim (cases_Bool (p n)) [
  | inl here ↦
      let clash : n ∷ [] ≡ [] = rw here at none in
      absurd (cc)
  | inr away ↦ away
]

nothing_listed : (p : ℕ → Bool) (n : ℕ) → filter p (below n) ≡ [] → (a : ℕ) → a < n → p a ≡ false
nothing_listed p zero none a low = absurd (omega arith)
nothing_listed p (suc n) none a low =
    let both = nothing_left (filter p (below n)) (filter p (n ∷ [])) (sym (filter-append p (below n) (n ∷ [])) ∙ none) in
    elim (cases_eq a n) [
      | inl is ↦ rw is (nothing_last p n both.1)
      | inr other ↦ nothing_listed p n both.0 a (omega arith)
    ]

-- where nothing is due in the tick behind them either, they are one more
pub quiet_longer : (S : System) (n : ℕ) (t : AlarmTable) → IsTableOf S t → AreQuietFor n t → due_of S (later (n + 1) t) ≡ [] → AreQuietFor (n + 1) t
quiet_longer S n t table quiet none k few a inside = elim (cases_lt k n) [
  | inl low ↦ quiet k low a inside
  | inr last ↦
      let is : n ≡ k = omega arith in
      let known : a < length S.alarms = omega (arith, table.expiries) in
      let clear = nothing_listed (is_due S (state_of S (later (n + 1) t))) (length S.alarms) none a known in
      subst (λ m. is_due_in (later (m + 1) t) a ≡ false) is (due_in_same S (later (n + 1) t) (table_later S (n + 1) t table) a known ∙ clear)
]

pub have_passed : (n : ℕ) (old new : AlarmTable) → AreQuietFor n old → new ≡ later n old → HavePassed n old new
have_passed n old new quiet is = record {
  none = λ S table k low. none_due_of S (later (k + 1) old) (table_later S (k + 1) old table) (quiet k low);
  after = is;
}

-- ---- what is known of a table that is kept, some ticks later

pub counted_next : (ahead : ℕ) (t old : AlarmTable) → later ahead t ≡ old → later (ahead + 1) t ≡ next_tick old
counted_next ahead t old is = sym (later_more ahead 1 t) ∙ ap next_tick is

pub counted_due : (S : System) (ahead flags : ℕ) (t old : AlarmTable) → later ahead t ≡ old → IsTableOf S old
    → ((a : ℕ) → a < length t.expiries → is_raised a flags ≡ is_due_in (later (ahead + 1) t) a)
    → filter (λ a. is_raised a flags) (below (length S.alarms)) ≡ due_of S (next_tick old)
counted_due S ahead flags t old is table raised =
    due_listed S (later (ahead + 1) t) flags (table_later S (ahead + 1) t (table_back S ahead t (subst (IsTableOf S) (sym is) table))) raised
    ∙ ap (due_of S) (counted_next ahead t old is)

pub counted_expired : (S : System) (ahead : ℕ) (t new old : AlarmTable) → later ahead t ≡ old → IsTableOf S old
    → new ≡ once_expired (later (ahead + 1) t) → later 0 new ≡ expired S (next_tick old)
counted_expired S ahead t new old is table expires =
    later_none new
    ∙ (expires ∙ (ap once_expired (counted_next ahead t old is) ∙ once_expired_is S (next_tick old) (table_later S 1 old table)))
