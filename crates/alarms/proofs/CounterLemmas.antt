-- The counters and the starts of a proper system's alarms.
use Rattle.std.proofs.Common.{ℕ, ◌≡◌, ◌<◌, ◌≤◌, inl, inr, true, ◌&&◌, ◌||◌, eqb, leb, length, Option, Some, None, subst, arith}
use Rattle.std.proofs.lemmas.Grind.{common_steps}
use Rattle.std.proofs.lemmas.Bool.{cases_Bool, and_parts, leb-true, ltb-true}
use Rattle.std.specs.Prelude.{slice_index_or}
use Rattle.osek_base.specs.declared.limits.TheConstants.{MAX_COUNTS, MAX_ALARMS}
use Rattle.osek_base.specs.declared.task.Counter.{Counter}
use Rattle.osek_base.specs.Lists.{is_in}
use Rattle.osek_base.specs.System.{System, AlarmStart, alarm, counter_of, no_alarm, no_counter, alarm_start_in, start_in}
use Rattle.osek_base.specs.Proper.{IsProper, is_proper_alarm, is_proper_counter, is_proper_start}
use Rattle.osek_base.proofs.PlaceLemmas.{all_at}

alarm_proper : (S : System) (a : ℕ) → IsProper S → a < length S.alarms → is_proper_alarm S (alarm S a) ≡ true
alarm_proper S a proper low = all_at (is_proper_alarm S) S.alarms a no_alarm low (and_parts _ _ proper.objects).1

counter_proper : (S : System) (a : ℕ) → IsProper S → a < length S.alarms → is_proper_counter (counter_of S a) ≡ true
counter_proper S a proper low =
    let here = and_parts _ _ (and_parts _ _ (alarm_proper S a proper low)).0 in
    let exists : (alarm S a).counter < length S.counters = ltb-true _ _ here.0 in
    all_at is_proper_counter S.counters (alarm S a).counter no_counter exists (and_parts _ _ (and_parts _ _ proper.objects).0).1

-- a counter has a base of a tick at least, and a round of at most 2 ^ 31 counts
pub record IsSound (c : Counter) : Type 0 where
  pub base : 1 ≤ c.ticks_per_base
  pub round : c.max_allowed_value ≤ MAX_COUNTS

pub sound : (S : System) (a : ℕ) → IsProper S → a < length S.alarms → IsSound (counter_of S a)
sound S a proper low =
    let all = counter_proper S a proper low in
    let base = and_parts _ _ (and_parts _ _ all).0 in
    let cycle = and_parts _ _ base.0 in
    let least = and_parts _ _ cycle.0 in
    let round = and_parts _ _ least.0 in
    record { base = leb-true _ _ base.1; round = leb-true _ _ round.1 }

-- so has each counter of the system
pub sound_counter : (S : System) (k : ℕ) → IsProper S → k < length S.counters → IsSound (slice_index_or S.counters k no_counter)
sound_counter S k proper low =
    let all = all_at is_proper_counter S.counters k no_counter low (and_parts _ _ (and_parts _ _ proper.objects).0).1 in
    let base = and_parts _ _ (and_parts _ _ all).0 in
    let cycle = and_parts _ _ base.0 in
    let least = and_parts _ _ cycle.0 in
    let round = and_parts _ _ least.0 in
    record { base = leb-true _ _ base.1; round = leb-true _ _ round.1 }

-- the counter of an alarm is declared
pub known_counter : (S : System) (a : ℕ) → IsProper S → a < length S.alarms → (alarm S a).counter < length S.counters
known_counter S a proper low =
    ltb-true _ _ (and_parts _ _ (and_parts _ _ (alarm_proper S a proper low)).0).0

-- there are no more alarms than allowed
pub few : (S : System) → IsProper S → length S.alarms ≤ MAX_ALARMS
few S proper = leb-true _ _ (and_parts _ _ (and_parts _ _ (and_parts _ _ proper.limits).0).0).1

-- whether an alarm starts with a time and cycle that its counter allows
start_proper : (S : System) (a : ℕ) → IsProper S → a < length S.alarms → is_proper_start S (counter_of S a) (alarm S a).autostart ≡ true
start_proper S a proper low = (and_parts _ _ (alarm_proper S a proper low)).1

cycle_low : (n least most : ℕ) → (eqb n 0 || (leb least n && leb n most)) ≡ true → n ≤ most
cycle_low n least most h = grind (arith, common_steps)

pub record IsLowStart (start : ℕ × ℕ) : Type 0 where
  pub some : 0 < start.0
  pub time : start.0 < 2147483648
  pub cycle : start.1 < 2147483648

low_start : (S : System) (mode : ℕ) (c : Counter) (s : Option AlarmStart) (found : ℕ × ℕ) → c.max_allowed_value ≤ MAX_COUNTS
    → is_proper_start S c s ≡ true → start_in mode s ≡ Some found → IsLowStart found
low_start S mode c None found round proper is = absurd (cc)
low_start S mode c (Some s) found round proper is = elim (cases_Bool (is_in mode s.modes)) [
  | inl here ↦
      let both = and_parts (leb 1 s.time && leb s.time c.max_allowed_value) (eqb s.cycle 0 || (leb c.min_cycle s.cycle && leb s.cycle c.max_allowed_value)) (and_parts _ _ proper).0 in
      let time : s.time ≤ c.max_allowed_value = leb-true s.time c.max_allowed_value (and_parts (leb 1 s.time) (leb s.time c.max_allowed_value) both.0).1 in
      let cycle : s.cycle ≤ c.max_allowed_value = cycle_low s.cycle c.min_cycle c.max_allowed_value both.1 in
      let found_is : Some (s.time, s.cycle) ≡ Some found = rw here at is in
      let same : (s.time, s.cycle) ≡ found = cc in
      let more : 1 ≤ s.time = leb-true 1 s.time (and_parts (leb 1 s.time) (leb s.time c.max_allowed_value) both.0).0 in
      subst IsLowStart same (record { some = omega arith; time = omega arith; cycle = omega arith })
  | inr away ↦
      let found_is : None ≡ Some found = rw away at is in
      absurd (cc)
]

pub start_low : (S : System) (mode a : ℕ) (found : ℕ × ℕ) → IsProper S → a < length S.alarms
    → alarm_start_in S mode a ≡ Some found → IsLowStart found
start_low S mode a found proper low is =
    low_start S mode (counter_of S a) (alarm S a).autostart found (sound S a proper low).round (start_proper S a proper low) is
