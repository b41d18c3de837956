-- What code knows of activations is what the laws ask for none to be refused.
use Rattle.std.proofs.Common.{ℕ, suc, ◌+◌, ◌≡◌, ◌<◌, ◌≤◌, ◌⊎◌, inl, inr, Bool, true, false, ◌&&◌, nat_lt, refl, List, [], ◌∷◌, length, sym, ap, subst, arith, ◌∙◌}
use Rattle.std.specs.List.{list_all}
use Rattle.std.proofs.lemmas.Bool.{ltb-false, ltb-true}
use Rattle.std.proofs.lemmas.List.Folds.{list_all-append}
use Rattle.osek_base.specs.Lists.{below}
use Rattle.osek_base.specs.Proper.{IsProper}
use Rattle.osek_base.specs.System.{System, priority_of}
use Rattle.arrival_rules.specs.declared.rule.ArrivalRule.{ArrivalRule}
use Rattle.view_measures.specs.declared.measure.Measure.{Measure}
use Rattle.view_measures.specs.Measures.{figure}
use Rattle.search_peaks.specs.Peaks.{Peaks, told}
use Rattle.law_bounds.specs.Ending.{EndsWithin}
use Rattle.law_windows.specs.Losses.{KeepsApart}
use Rattle.law_analysis.specs.Refusing.{AcceptedActions, AlarmsRefuseNone, NeverRefused, NeverRefusedBy, NobodyRefuses}
use Rattle.law_analysis.specs.RefusingByRoutine.{AreKeptApart, RoutinesRefuseNone}
use Rattle.analysis_bounds.specs.declared.levels.TheConstants.{CAP}
use Rattle.analysis_bounds.specs.Refusing.{AlarmIsSlow, AreAccepted, AreActionsAccepted, AreJobsShort, IsAccepted, IsActionAccepted, RefusalsAreTold, RoutineIsSlow}
use Rattle.analysis_bounds.specs.Told.{AreKeptApart as HaveRule, IsResponse}
use Rattle.analysis_bounds.specs.Windows.{AreMosts}
use Rattle.analysis_bounds.proofs.TellLemmas.{starts_before, there}

by_one : (n : ℕ) → suc n ≡ n + 1
by_one n = omega arith

-- a test of the first numbers, and of the next one
pub one_more : (p : ℕ → Bool) (n : ℕ) → list_all p (below n) ≡ true → p n ≡ true
    → list_all p (below (n + 1)) ≡ true
one_more p n all next =
    subst (λ m. list_all p (below m) ≡ true) (by_one n)
    (list_all-append p (below n) (n ∷ []) ∙ ap (λ b. b && (p n && true)) all
    ∙ ap (λ b. b && true) next)

-- what holds of the first numbers, and of the next one
pub also_next : (P : ℕ → Type 0) (n : ℕ) → ((k : ℕ) → k < n → P k) → P n → (k : ℕ) → k < n + 1
    → P k
also_next P n all this k low = go (nat_lt k n) refl
  where
    go : (b : Bool) → nat_lt k n ≡ b → P k
    go true less = all k (ltb-true k n less)
    go false more =
        let least = ltb-false k n more in
        subst P (same least) this
      where
        same : n ≤ k → n ≡ k
        same least = omega (arith, least, low)

kept_apart : (rules : List ArrivalRule) (i ticks : ℕ) → HaveRule rules i ticks
    → AreKeptApart rules i ticks
kept_apart rules i ticks (n, rule, stands, keeps) =
    let at = there rules n rule stands in
    record {
      number = n;
      of = ap (λ (r : ArrivalRule). r.routine) at ∙ keeps.0;
      apart = subst (λ r. KeepsApart r ticks) (sym at) keeps.1;
    }

module _ (S : System) (mode : ℕ) (rules : List ArrivalRule) (peaks : Peaks) (mosts : List ℕ)
    (proper : IsProper S) (bounds : AreMosts S mode rules CAP mosts) where
  -- jobs of a task end within the ticks of windows of its level
  ends_within : (k most : ℕ) → most < CAP → IsResponse S mosts k most
      → EndsWithin S mode rules most k
  ends_within k most low of_level =
      let is = of_level low in
      let bound =
      bounds (priority_of S k) is.0 (subst (λ n. n < CAP) (sym is.1) low) in
      subst (λ n. EndsWithin S mode rules n k) is.1 (bound.tasks k (omega arith))

  module _ (by_nobody : NobodyRefuses) (by_alarms : AlarmsRefuseNone)
      (by_routines : RoutinesRefuseNone) (by_actions : AcceptedActions) where
    short_accepted : (k : ℕ) → k < length S.tasks → AreJobsShort S mode rules mosts k
        → NeverRefused S mode rules k
    short_accepted k inside short = go short.slow
      where
        ends : EndsWithin S mode rules short.most k
        ends = ends_within k short.most short.low short.of_level

        go : (AlarmIsSlow S mode k short.most ⊎ RoutineIsSlow S mode rules mosts k short.most)
            → NeverRefused S mode rules k
        go (inl slow) =
            (by_alarms S mode rules k slow.0 slow.2.time slow.2.cycle short.most proper inside
            short.basic slow.2.alone slow.2.apart ends).0
        go (inr slow) =
            by_routines S mode rules k slow.which slow.at_place slow.latency short.most proper inside short.basic
            slow.inside slow.seldom.alone slow.some
            (starts_before S mode rules peaks mosts bounds slow.which slow.latency slow.inside
            slow.of_level slow.low)
            (kept_apart rules slow.which (slow.latency + slow.at_place + short.most)
            slow.seldom.apart)
            ends

    accepted : (k : ℕ) → k < length S.tasks → IsAccepted S mode rules mosts k
        → NeverRefused S mode rules k
    accepted k inside (inl alone) = by_nobody S mode rules k alone.programs alone.alarms
    accepted k inside (inr short) = short_accepted k inside short

    module _
        (known : AreAccepted S mode rules mosts peaks (length S.tasks))
        (actions : AreActionsAccepted S peaks (length S.alarms)) where
      task_told : (k : ℕ) → k < length S.tasks
          → NeverRefused S mode rules k ⊎ (1 ≤ told peaks (figure Measure.Refusal k))
      task_told k inside = go (known k inside)
        where
          go : (IsAccepted S mode rules mosts k
              ⊎ (1 ≤ told peaks (figure Measure.Refusal k)))
              → NeverRefused S mode rules k ⊎ (1 ≤ told peaks (figure Measure.Refusal k))
          go (inl is) = inl (accepted k inside is)
          go (inr some) = inr some

      action_told : (a : ℕ) → a < length S.alarms
          → NeverRefusedBy S mode rules a ⊎ (1 ≤ told peaks (figure Measure.RefusedAction a))
      action_told a inside = go (actions a inside)
        where
          go : (IsActionAccepted S peaks a
              ⊎ (1 ≤ told peaks (figure Measure.RefusedAction a)))
              → NeverRefusedBy S mode rules a ⊎ (1 ≤ told peaks (figure Measure.RefusedAction a))
          go (inr some) = inr some
          go (inl is) = at (task_told is.activated is.inside)
            where
              at : (NeverRefused S mode rules is.activated
                  ⊎ (1 ≤ told peaks (figure Measure.Refusal is.activated)))
                  → NeverRefusedBy S mode rules a
                  ⊎ (1 ≤ told peaks (figure Measure.RefusedAction a))
              at (inl never) = inl (by_actions S mode rules is.activated a is.by_alarm never)
              at (inr some) =
                  let none = is.none in
                  absurd (omega (arith, some, none))

      pub refusals_told : RefusalsAreTold S mode rules peaks
      refusals_told = record { tasks = task_told; alarms = action_told }
