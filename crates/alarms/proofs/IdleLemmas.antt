-- The table where no alarm is on.
use Rattle.std.proofs.Common.{ℕ, ◌≡◌, ◌+◌, ◌*◌, List, [], ◌∷◌, map, length, get_or, replicate, Option, None, refl, sym, ◌∙◌, ap, ap₂, arith}
use Rattle.std.proofs.Math.ListN.{get_or-map}
use Rattle.std.proofs.Math.Nat.{zero-div}
use Rattle.std.proofs.lemmas.List.{length-map, length-replicate, ext_get_or, get_or-replicate}
use Rattle.osek_base.specs.declared.task.Counter.{Counter}
use Rattle.osek_base.specs.System.{System, Alarm, counter, no_alarm, no_counter}
use Rattle.osek_base.specs.State.{Expiry}
use Rattle.osek_base.specs.Proper.{IsProper}
use Rattle.alarms.specs.declared.counter_alarms.CounterAlarms.{CounterAlarms}
use Rattle.alarms.specs.Counters.{idle, expiry_in, IsReady, counter_at, number_of, expiries_of, counters_of, table_of, AreWhole}
use Rattle.alarms.proofs.CounterLemmas.{IsSound, sound_counter, known_counter, few}
use Rattle.alarms.proofs.PlaceLemmas.{length-expiries, expiry_there}

idle_at : (cs : List Counter) (k : ℕ) → counter_at (map idle cs) k ≡ idle (get_or cs k no_counter)
idle_at cs k = get_or-map idle cs k no_counter

idle_ready : (c : Counter) → IsSound c → IsReady 0 (idle c)
idle_ready c s =
    let none : 0 * c.ticks_per_base + c.ticks_per_base ≡ c.ticks_per_base = omega arith in
    record {
      base = s.base;
      round = omega (arith, s.round);
      next_is = sym (ap (λ n. n * c.ticks_per_base + c.ticks_per_base) (zero-div c.ticks_per_base) ∙ none);
      ahead = refl;
      apart = refl;
    }

abbrev number : Alarm → ℕ
number b = b.counter

number_at : (alarms : List Alarm) (a : ℕ) → number_of (map (λ b. b.counter) alarms) a ≡ (get_or alarms a no_alarm).counter
number_at alarms a = get_or-map (λ (b : Alarm). b.counter) alarms a no_alarm

pub new_whole : (S : System) → IsProper S → AreWhole 0 (map idle S.counters) (map (λ b. b.counter) S.alarms)
new_whole S proper = record {
  early = omega arith;
  few = omega (arith, few S proper, length-map S.alarms number);
  ready = λ k inside.
      rw (idle_at S.counters k) (idle_ready _ (sound_counter S k proper (omega (arith, length-map S.counters idle))));
  known = λ a inside.
      rw (number_at S.alarms a) (omega (arith, known_counter S a proper (omega (arith, length-map S.alarms number)), length-map S.counters idle));
  own = λ k a inside other. ap (λ (c : CounterAlarms). expiry_in 0 c a) (idle_at S.counters k);
}

none_on : (cs : List Counter) (numbers : List ℕ) → expiries_of 0 (map idle cs) numbers ≡ replicate (length numbers) None
none_on cs numbers =
    let long = length-expiries 0 (map idle cs) numbers in
    ext_get_or None (expiries_of 0 (map idle cs) numbers) (replicate (length numbers) None) (long ∙ sym (length-replicate (length numbers) None)) (λ a inside.
    expiry_there 0 (map idle cs) numbers a (omega arith)
    ∙ (ap (λ (c : CounterAlarms). expiry_in 0 c a) (idle_at cs (number_of numbers a)) ∙ sym (get_or-replicate (length numbers) a None None (omega arith))))

declared_counters : (S : System) (alarms : List Alarm)
    → counters_of (map idle S.counters) (map (λ b. b.counter) alarms) ≡ map (λ b. counter S b.counter) alarms
declared_counters S [] = refl
declared_counters S (b ∷ alarms) =
    ap₂ (λ (c : Counter) (cs : List Counter). c ∷ cs) (ap (λ (c : CounterAlarms). c.counter) (idle_at S.counters b.counter)) (declared_counters S alarms)

pub new_expiries : (S : System)
    → expiries_of 0 (map idle S.counters) (map (λ b. b.counter) S.alarms) ≡ replicate (length S.alarms) None
new_expiries S = none_on S.counters (map (λ b. b.counter) S.alarms) ∙ ap (λ n. replicate n None) (length-map S.alarms number)

pub new_counters : (S : System) → counters_of (map idle S.counters) (map (λ b. b.counter) S.alarms) ≡ map (λ b. counter S b.counter) S.alarms
new_counters S = declared_counters S S.alarms

pub new_table : (S : System) → table_of 0 (map idle S.counters) (map (λ b. b.counter) S.alarms)
    ≡ record { expiries = replicate (length S.alarms) None; counters = map (λ b. counter S b.counter) S.alarms; tick = 0 }
new_table S =
    ap₂ (λ (es : List (Option Expiry)) (cs : List Counter). record { expiries = es; counters = cs; tick = 0 }) (new_expiries S) (new_counters S)
