-- An alarm expires no more often than its gap allows; so costs, rules and gaps are enough.
use Rattle.std.proofs.Common.{ℕ, zero, suc, ◌≡◌, ◌<◌, ◌≤◌, ◌+◌, ◌*◌, inl, inr, Bool, true, false, cond, List, length, refl, sym, ap, subst, arith}
use Rattle.std.specs.Prelude.{Option, Some, None, ◌==◌}
use Rattle.std.proofs.Math.Nat.{mul-pos}
use Rattle.std.proofs.lemmas.Bool.{cases_lt, eqb-false, eqb-true}
use Rattle.osek_base.specs.declared.arrivals.Arrival.{Arrival}
use Rattle.osek_base.specs.Proper.{IsProper}
use Rattle.osek_base.specs.System.{System, alarm_start_in}
use Rattle.law_runs.specs.Jobs.{one_if}
use Rattle.law_alarms.specs.Apart.{AreApart}
use Rattle.law_alarms.specs.Expiries.{base_of, expires, expiries}
use Rattle.law_alarms.specs.Setting.{is_never_set}
use Rattle.law_alarms.specs.Spaced.{most_in}
use Rattle.law_alarms.proofs.Due.{some_ticks}
use Rattle.law_alarms.proofs.Gaps.{always_apart, apart_as_set}
use Rattle.law_alarms.proofs.OfBoot.{never_started, set_at_boot_only}
use Rattle.law_windows.specs.Expiring.{ExpiriesAreFew, GapsBoundResponses, IsSetNoSooner, most_expiries, most_of_boot}
use Rattle.law_windows.proofs.Analysis.{analysis_bounds_responses}

module _ (S : System) (mode : ℕ) (arrivals : List Arrival) (a : ℕ) (proper : IsProper S)
    (inside : a < length S.alarms) (from : ℕ) where
  some_base : 0 < base_of S a
  some_base = some_ticks S a proper inside

  few_apart : (gap count : ℕ) → 0 < gap
      → ((last : ℕ) → AreApart S mode arrivals a gap last)
      → expiries S mode arrivals a from count ≤ most_in gap count
  few_apart gap zero some apart = omega arith
  few_apart gap (suc count) some apart =
      (apart (from + count)).few from (suc count) some (omega arith) (omega arith)

  -- ---- one that only boot starts

  none_of : ((n : ℕ) → expires S mode arrivals a n ≡ false) → (count : ℕ)
      → expiries S mode arrivals a from count ≡ 0
  none_of never zero = refl
  none_of never (suc count) =
      let before = none_of never count in
      let here = ap one_if (never (from + count)) in
      omega (arith, before, here)

  few_of_boot : (count : ℕ) → is_never_set S a ≡ true → (o : Option (ℕ × ℕ))
      → alarm_start_in S mode a ≡ o
      → expiries S mode arrivals a from count ≤ most_of_boot (base_of S a) count o
  few_of_boot count never None starts =
      let none =
      none_of (λ n. never_started S mode arrivals a n proper never starts) count in
      omega (arith, none)
  few_of_boot count never (Some start) starts = go (start.1 == 0) refl
    where
      some_cycle : (start.1 == 0) ≡ false → 0 < start.1
      some_cycle is = elim (cases_lt 0 start.1) [
        | inl more ↦ more
        | inr none ↦ absurd (eqb-false start.1 0 is (omega (arith, none)))
      ]

      go : (b : Bool) → (start.1 == 0) ≡ b
          → expiries S mode arrivals a from count
          ≤ cond b 1 (most_in (start.1 * base_of S a) count)
      go true is =
          (set_at_boot_only S mode arrivals a start.0 start.1 proper never starts).once
          (eqb-true start.1 0 is) from count
      go false is =
          few_apart (start.1 * base_of S a) count (mul-pos (some_cycle is) some_base)
          (set_at_boot_only S mode arrivals a start.0 start.1 proper never starts).apart

  -- ---- one that programs set

  apart_by : (least : ℕ) → IsSetNoSooner S mode arrivals a least → (last : ℕ)
      → AreApart S mode arrivals a (least * base_of S a) last
  apart_by least sooner last = elim (cases_lt 1 least) [
    | inl more ↦ apart_as_set S mode arrivals a least last proper (sooner.more more last)
    | inr most ↦
        let some = sooner.some in
        let one : least ≡ 1 = omega (arith, most, some) in
        let same : base_of S a ≡ 1 * base_of S a = omega arith in
        subst (λ (k : ℕ). AreApart S mode arrivals a (k * base_of S a) last) (sym one)
        (subst (λ gap. AreApart S mode arrivals a gap last) same
        (always_apart S mode arrivals a last proper))
  ]

  few_in : (least count : ℕ)
      → (is_never_set S a ≡ false → IsSetNoSooner S mode arrivals a least) → (b : Bool)
      → is_never_set S a ≡ b
      → expiries S mode arrivals a from count
      ≤ cond b (most_of_boot (base_of S a) count (alarm_start_in S mode a))
      (most_in (least * base_of S a) count)
  few_in least count sooner true never =
      few_of_boot count never (alarm_start_in S mode a) refl
  few_in least count sooner false set =
      few_apart (least * base_of S a) count (mul-pos (sooner set).some some_base)
      (apart_by least (sooner set))

pub expiries_are_few : ExpiriesAreFew
expiries_are_few S mode arrivals costs least count proper sooner a from inside dear =
    few_in S mode arrivals a proper inside from (least a) count (sooner a inside dear)
    (is_never_set S a) refl

pub gaps_bound_responses : GapsBoundResponses
gaps_bound_responses S mode rules p costs least most proper enough counted =
    analysis_bounds_responses S mode rules p costs (most_expiries S mode least most) most enough
    (λ arrivals keep. record {
      left = (counted arrivals keep).left;
      potential = (counted arrivals keep).potential;
      few = expiries_are_few S mode arrivals costs least most proper
          (counted arrivals keep).sooner;
    })
