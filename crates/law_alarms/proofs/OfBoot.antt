-- An alarm that programs leave to boot.
use Rattle.std.proofs.Common.{ℕ, zero, suc, ◌≡◌, ◌≤◌, ◌+◌, ◌-◌, ◌*◌, ◌/◌, inr, Bool, true, false, cond, List, refl, sym, ◌∙◌, ap, subst, arith}
use Rattle.std.specs.Prelude.{Option, Some, None, ◌==◌, IfSome}
use Rattle.std.proofs.lemmas.Bool.{eqb-true, false_from_ne_true}
use Rattle.std.proofs.lemmas.Nat.{div-add-mod', div_below}
use Rattle.osek_base.specs.declared.arrivals.Arrival.{Arrival}
use Rattle.osek_base.specs.Alarm.{is_due_at}
use Rattle.osek_base.specs.Proper.{IsProper}
use Rattle.osek_base.specs.State.{Expiry}
use Rattle.osek_base.specs.System.{System, alarm_start_in, counter_of}
use Rattle.osek_base.specs.Tick.{executor}
use Rattle.osek_base.specs.Trace.{first_expiry}
use Rattle.osek_base.specs.Types.{ServiceCall}
use Rattle.law_alarms.specs.Apart.{IsOfBoot, NeverStarted, SetAtBootOnly}
use Rattle.law_alarms.specs.Expiries.{base_of, expires, expiries}
use Rattle.law_alarms.specs.Setting.{AreNoSooner, IsSlow, executing_in, is_never_set}
use Rattle.law_alarms.proofs.Along.{IsKept, IsSet, a_cycle_on, along, expired_at, expiry_at}
use Rattle.law_alarms.proofs.Counting.{few}
use Rattle.law_alarms.proofs.Counts.{no_cycles}
use Rattle.law_alarms.proofs.Due.{expiring, some_ticks}
use Rattle.law_alarms.proofs.Gaps.{apart_as_set}
use Rattle.law_alarms.proofs.OnTime.{on_time}
use Rattle.law_alarms.proofs.Unset.{never_called, other_later, other_sets}

module _ (S : System) (mode : ℕ) (arrivals : List Arrival) (a : ℕ)
    (never : is_never_set S a ≡ true) where
  -- nothing sets it
  unset : (n : ℕ) (call : ServiceCall) (e : Expiry) → IsSet S mode arrivals a n call e → ⊥
  unset n call e s =
      other_sets (counter_of S a) a (n / base_of S a) call e
      (never_called S a never (executor (executing_in S mode arrivals n)) call s.served.called)
      s.sets

  -- ---- one that doesn't start

  abbrev IsOff : ℕ → Option Expiry → Type 0
  IsOff n None = Unit {0}
  IsOff n (Some e) = ⊥

  stays_off : (n : ℕ) (e : Option Expiry) → IsOff n e
      → IsOff (suc n) (expired_at S mode arrivals a n e)
  stays_off n None off = tt
  stays_off n (Some e) off = absurd off

  off_kept : alarm_start_in S mode a ≡ None → (last : ℕ) → IsKept S mode arrivals a IsOff last
  off_kept none last = record {
    off = λ n. tt;
    boot = subst (λ o. IsOff 0 (first_expiry o)) (sym none) tt;
    expires = λ n below goes off. stays_off n (expiry_at S mode arrivals a n) off;
    set = λ n below goes call e s. absurd (unset n call e s);
  }

  off_never_due : (n : ℕ) (e : Option Expiry) → IsOff n e → is_due_at (n / base_of S a) e ≡ true
      → ⊥
  off_never_due n None off due = grind (arith, due)
  off_never_due n (Some e) off due = off

  pub not_started : alarm_start_in S mode a ≡ None → (n : ℕ) → expires S mode arrivals a n ≡ false
  not_started none n =
      false_from_ne_true (expires S mode arrivals a n)
      (λ h.
      let x = expiring S mode arrivals a n h in
      off_never_due n (expiry_at S mode arrivals a n)
      (along S mode arrivals a x.inside IsOff n (off_kept none n) n (omega arith) x.goes) x.due)

  -- ---- one that starts

  module _ (time cycle : ℕ) (starts : alarm_start_in S mode a ≡ Some (time, cycle)) where
    -- whole cycles behind its time
    abbrev IsRegular : ℕ → Option Expiry → Type 0
    IsRegular n None = Unit {0}
    IsRegular n (Some e) = ((k : ℕ) × (e.count ≡ time + k * cycle)) × (e.cycle ≡ cycle)

    stays_regular : (n : ℕ) (e : Option Expiry) → IsRegular n e
        → IsRegular (suc n) (expired_at S mode arrivals a n e)
    stays_regular n None regular = tt
    stays_regular n (Some e) regular = go (e.count == n / base_of S a) (e.cycle == 0)
      where
        go : (b c : Bool)
            → IsRegular (suc n) (cond b (cond c None (Some (a_cycle_on e))) (Some e))
        go true true = tt
        go true false =
            let k = regular.0.0 in
            let is = regular.0.1 in
            let same = regular.1 in
            ((suc k, omega (arith, is, same)), regular.1)
        go false c = regular

    regular_kept : (last : ℕ) → IsKept S mode arrivals a IsRegular last
    regular_kept last = record {
      off = λ n. tt;
      boot = subst (λ o. IsRegular 0 (first_expiry o)) (sym starts) ((0, omega arith), refl);
      expires = λ n below goes regular. stays_regular n (expiry_at S mode arrivals a n) regular;
      set = λ n below goes call e s. absurd (unset n call e s);
    }

    regular_due : (n : ℕ) (e : Option Expiry) → IsRegular n e
        → is_due_at (n / base_of S a) e ≡ true
        → (k : ℕ) × (n / base_of S a ≡ time + k * cycle)
    regular_due n None regular due = absurd (grind (arith, due))
    regular_due n (Some e) regular due =
        (regular.0.0, sym (eqb-true e.count (n / base_of S a) due) ∙ regular.0.1)

    known : IsProper S → (n : ℕ) → expires S mode arrivals a n ≡ true
        → (k : ℕ) × (n ≡ (time + k * cycle) * base_of S a)
    known proper n h =
        let x = expiring S mode arrivals a n h in
        let due = regular_due n (expiry_at S mode arrivals a n)
        (along S mode arrivals a x.inside IsRegular n (regular_kept n) n (omega arith) x.goes)
        x.due in
        let first = on_time S mode arrivals a (some_ticks S a proper x.inside) n x in
        let whole = div-add-mod' n (base_of S a) in
        let same = ap (λ c. c * base_of S a) due.1 in
        (due.0, omega (arith, whole, first, same))

    no_sooner : (least last : ℕ) → IsSlow least cycle → AreNoSooner S mode arrivals a least last
    no_sooner least last slow = record {
      boot = subst (λ o. IfSome o (λ start. IsSlow least start.1)) (sym starts) slow;
      calls = λ t call low goes served.
          other_later a least call
          (never_called S a never (executor (executing_in S mode arrivals t)) call served.called);
    }

    pub of_boot : IsProper S → IsOfBoot S mode arrivals a time cycle
    of_boot proper = record {
      apart = λ last.
          apart_as_set S mode arrivals a cycle last proper
          (no_sooner cycle last (inr (omega arith)));
      once = λ none from count. once none from count;
      known = known proper;
    }
      where
        -- its one tick
        alone : cycle ≡ 0 → (n : ℕ) → expires S mode arrivals a n ≡ true → n ≡ time * base_of S a
        alone none n h =
            let at = known proper n h in
            at.1 ∙ ap (λ c. c * base_of S a) (no_cycles time at.0 cycle none)

        once : cycle ≡ 0 → (from count : ℕ) → expiries S mode arrivals a from count ≤ 1
        once none from zero = omega arith
        once none from (suc count) =
            let most = few (expires S mode arrivals a) (suc count) (from + count) from
            (λ t u later low h k.
            let one = alone none t h in
            let other = alone none u k in
            absurd (omega (arith, one, other, later)))
            (suc count) (omega arith) (omega arith) (omega arith) in
            let none_left = div_below (suc count - 1) (suc count) 1 (omega arith) (omega arith) in
            omega (arith, most, none_left)

pub set_at_boot_only : SetAtBootOnly
set_at_boot_only S mode arrivals a time cycle proper never starts =
    of_boot S mode arrivals a never time cycle starts proper

pub never_started : NeverStarted
never_started S mode arrivals a n proper never none = not_started S mode arrivals a never none n
