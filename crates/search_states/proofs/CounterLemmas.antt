-- The counters of a proper system's alarms.
use Rattle.std.proofs.Common.{ℕ, ◌≡◌, ◌<◌, ◌≤◌, true, length}
use Rattle.std.proofs.lemmas.Bool.{and_parts, leb-true, ltb-true}
use Rattle.osek_base.specs.System.{System, alarm, counter_of, no_alarm, no_counter}
use Rattle.osek_base.specs.Proper.{IsProper, is_proper_alarm, is_proper_counter}
use Rattle.osek_base.proofs.PlaceLemmas.{all_at}

alarm_proper : (S : System) (a : ℕ) → IsProper S → a < length S.alarms
    → is_proper_alarm S (alarm S a) ≡ true
alarm_proper S a proper low =
    all_at (is_proper_alarm S) S.alarms a no_alarm low (and_parts _ _ proper.objects).1

counter_proper : (S : System) (a : ℕ) → IsProper S → a < length S.alarms
    → is_proper_counter (counter_of S a) ≡ true
counter_proper S a proper low =
    let here = and_parts _ _ (and_parts _ _ (alarm_proper S a proper low)).0 in
    let exists : (alarm S a).counter < length S.counters = ltb-true _ _ here.0 in
    all_at is_proper_counter S.counters (alarm S a).counter no_counter exists
    (and_parts _ _ (and_parts _ _ proper.objects).0).1

-- the counter of an alarm has a base of a tick at least
pub some_ticks : (S : System) (a : ℕ) → IsProper S → a < length S.alarms
    → 1 ≤ (counter_of S a).ticks_per_base
some_ticks S a proper low =
    let base = and_parts _ _ (and_parts _ _ (counter_proper S a proper low)).0 in
    leb-true _ _ base.1
