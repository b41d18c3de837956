-- What the methods of `Alarms` do to the table, and starts.
use Rattle.std.proofs.Common.{ℕ, ◌≡◌, ◌<◌, ◌≤◌, ◌+◌, List, [], ◌∷◌, ◌++◌, map, take, drop, length, set, replicate, Option, None, refl, arith}
use Rattle.std.proofs.Math.Numerals.{add-one}
use Rattle.std.proofs.Math.Nat.{sub_self}
use Rattle.std.proofs.Math.Seq.{drop-cons}
use Rattle.std.proofs.lemmas.List.{append_assoc, map-append, length-map, length-take, length-replicate, take_more, set-append_right}
use Rattle.osek_base.specs.System.{System, Alarm, no_alarm, start_in, alarm_start_in}
use Rattle.osek_base.specs.State.{Expiry}
use Rattle.osek_base.specs.Trace.{first_expiry}
use Rattle.alarms.specs.Alarms.{AlarmTable}

-- ---- starts

-- the first expiry of an alarm in a mode
abbrev pub first_in : ℕ → Alarm → Option Expiry
first_in mode a = first_expiry (start_in mode a.autostart)

-- alarms that are off
abbrev pub all_off : ℕ → List (Option Expiry)
all_off n = replicate n None

pub length-off : (n : ℕ) → length (all_off n) ≡ n
length-off n = length-replicate n None

-- the first i alarms are started, and the rest are off
pub record IsStarted (S : System) (mode : ℕ) (old new : AlarmTable) (i : ℕ) : Type 0 where
  pub expiries : new.expiries ≡ map (first_in mode) (take i S.alarms) ++ drop i (all_off (length S.alarms))
  pub counters : new.counters ≡ old.counters
  pub tick : new.tick ≡ old.tick

put_next : {X : Type 0} (front old : List X) (i : ℕ) (d x : X) → length front ≡ i → i < length old
    → set (front ++ drop i old) i x ≡ (front ++ x ∷ []) ++ drop (i + 1) old
put_next front old i d x len low =
    rw (drop-cons old i d low, set-append_right front _ i i x len (omega arith), sub_self, add-one, append_assoc) refl

module _ (S : System) (mode : ℕ) (old new : AlarmTable) (i : ℕ) (done : IsStarted S mode old new i) where
  front : i ≤ length S.alarms → length (map (first_in mode) (take i S.alarms)) ≡ i
  front low = rw length-map (omega (arith, length-take i S.alarms))

  pub started_next : i < length S.alarms
      → IsStarted S mode old (record new { expiries = set new.expiries i (first_expiry (alarm_start_in S mode i)) }) (i + 1)
  started_next low = record {
    expiries = rw (done.expiries, put_next (map (first_in mode) (take i S.alarms)) (all_off (length S.alarms)) i None (first_expiry (alarm_start_in S mode i)) (front (omega arith)) (omega (arith, length-off (length S.alarms))), take_more S.alarms i no_alarm low, map-append) refl;
    counters = done.counters;
    tick = done.tick;
  }
