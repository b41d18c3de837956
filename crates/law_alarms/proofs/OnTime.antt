-- An alarm expires as a count begins.
use Rattle.std.proofs.Common.{ℕ, suc, ◌≡◌, ◌<◌, ◌≤◌, ◌+◌, ◌*◌, ◌/◌, ◌%◌, Bool, true, false, cond, List, refl, ap, arith}
use Rattle.std.specs.Prelude.{Option, Some, None, ◌==◌}
use Rattle.std.proofs.lemmas.Bool.{eqb-false, eqb-true}
use Rattle.osek_base.specs.declared.arrivals.Arrival.{Arrival}
use Rattle.osek_base.specs.declared.instr.Service.{Service}
use Rattle.osek_base.specs.declared.task.Counter.{Counter}
use Rattle.osek_base.specs.Alarm.{is_due_at}
use Rattle.osek_base.specs.State.{Expiry}
use Rattle.osek_base.specs.System.{System, alarm_start_in, counter_of}
use Rattle.osek_base.specs.Trace.{first_expiry}
use Rattle.osek_base.specs.Types.{ServiceCall}
use Rattle.law_alarms.specs.Expiries.{AlwaysOnTime, base_of}
use Rattle.law_alarms.specs.Setting.{HasTimes, executing_in}
use Rattle.law_alarms.proofs.Ticked.{SetsTo}
use Rattle.law_alarms.proofs.Along.{IsKept, a_cycle_on, along, expired_at, expiry_at}
use Rattle.law_alarms.proofs.Counts.{before, before_later, first_of}
use Rattle.law_alarms.proofs.Due.{IsExpiring, expiring, some_ticks}
use Rattle.law_alarms.proofs.Times.{served_have_times, some_of}

-- what isn't refused sets an alarm to a later count
later_set : (S : System) (c : Counter) (a n : ℕ) (call : ServiceCall) (e : Expiry)
    → HasTimes S call → SetsTo c n a call e → n < e.count
later_set S c a n (Service.SetRelAlarm (Some b) x y) e times sets =
    let some = times.0 in
    let is = ap (λ (f : Expiry). f.count) sets.1 in
    omega (arith, some, is)
later_set S c a n (Service.SetAbsAlarm (Some b) x y) e times sets =
    let is = ap (λ (f : Expiry). f.count) sets.1 in
    omega (arith, is)
later_set S c a n _ e times sets = absurd sets

module _ (S : System) (mode : ℕ) (arrivals : List Arrival) (a : ℕ) (some : 0 < base_of S a) where
  -- at tick n the first tick of the count at which the alarm expires isn't past
  abbrev IsOnTime : ℕ → Option Expiry → Type 0
  IsOnTime n None = Unit {0}
  IsOnTime n (Some e) = n ≤ e.count * base_of S a

  begins : (o : Option (ℕ × ℕ)) → IsOnTime 0 (first_expiry o)
  begins None = tt
  begins (Some start) = omega arith

  goes_on : (n : ℕ) (e : Option Expiry) → IsOnTime n e
      → IsOnTime (suc n) (expired_at S mode arrivals a n e)
  goes_on n None on_time = tt
  goes_on n (Some e) on_time = go (e.count == n / base_of S a) refl (e.cycle == 0) refl
    where
      go : (b : Bool) → (e.count == n / base_of S a) ≡ b → (c : Bool) → (e.cycle == 0) ≡ c
          → IsOnTime (suc n) (cond b (cond c None (Some (a_cycle_on e))) (Some e))
      go true now true once = tt
      go true now false cyclic =
          let is = eqb-true e.count (n / base_of S a) now in
          let more = some_of e.cycle cyclic in
          before_later n (base_of S a) (e.count + e.cycle) some (omega (arith, is, more))
      go false now c other =
          before n (base_of S a) e.count some (eqb-false e.count (n / base_of S a) now) on_time

  kept : (last : ℕ) → IsKept S mode arrivals a IsOnTime last
  kept last = record {
    off = λ n. tt;
    boot = begins (alarm_start_in S mode a);
    expires = λ n below goes on_time. goes_on n (expiry_at S mode arrivals a n) on_time;
    set = λ n below goes call e s.
        before_later n (base_of S a) e.count some
        (later_set S (counter_of S a) a (n / base_of S a) call e
        (served_have_times S (executing_in S mode arrivals n) call s.served) s.sets);
  }

  due_first : (n : ℕ) (e : Option Expiry) → IsOnTime n e → is_due_at (n / base_of S a) e ≡ true
      → n % base_of S a ≡ 0
  due_first n None on_time due = absurd (grind (arith, due))
  due_first n (Some e) on_time due =
      first_of n (base_of S a) e.count (eqb-true e.count (n / base_of S a) due) on_time

  pub on_time : (n : ℕ) → IsExpiring S mode arrivals a n → n % base_of S a ≡ 0
  on_time n x =
      due_first n (expiry_at S mode arrivals a n)
      (along S mode arrivals a x.inside IsOnTime n (kept n) n (omega arith) x.goes) x.due

pub always_on_time : AlwaysOnTime
always_on_time S mode arrivals a n proper h =
    let x = expiring S mode arrivals a n h in
    on_time S mode arrivals a (some_ticks S a proper x.inside) n x
