-- A window has no more ticks than are enough by a potential.
use Rattle.std.proofs.Common.{ℕ, zero, suc, ◌≡◌, ◌<◌, ◌≤◌, ◌+◌, inl, inr, Bool, true, false, List, refl, sym, ap, subst, arith}
use Rattle.std.proofs.lemmas.Bool.{cases_lt}
use Rattle.osek_base.specs.declared.arrivals.Arrival.{Arrival}
use Rattle.osek_base.specs.System.{System}
use Rattle.osek_base.specs.Trace.{run}
use Rattle.law_runs.proofs.RunSteps.{going_before}
use Rattle.law_windows.specs.Work.{has_work_after, is_busy}
use Rattle.law_windows.specs.Windows.{IsWindow}
use Rattle.law_windows.specs.Coming.{Costs, came, coming, first_cost}
use Rattle.law_windows.specs.Potential.{AreEnough, IsPotential, WindowsAreShort}

-- a run that goes on behind some ticks does so behind fewer
pub going_early : (S : System) (mode : ℕ) (arrivals : List Arrival) (n i : ℕ) → i ≤ n
    → (run S mode arrivals n).state.over ≡ false → (run S mode arrivals i).state.over ≡ false
going_early S mode arrivals zero i low going =
    let same : 0 ≡ i = omega (arith, low) in
    subst (λ (k : ℕ). (run S mode arrivals k).state.over ≡ false) same going
going_early S mode arrivals (suc n) i low going = elim (cases_lt i (suc n)) [
  | inl less ↦
      going_early S mode arrivals n i (omega (arith, less)) (going_before S mode arrivals n going)
  | inr most ↦
      let same : suc n ≡ i = omega (arith, low, most) in
      subst (λ (k : ℕ). (run S mode arrivals k).state.over ≡ false) same going
]

module _ (S : System) (mode : ℕ) (arrivals : List Arrival) (p : ℕ) (costs : Costs) (left : ℕ → ℕ)
    (potential : IsPotential S mode arrivals p costs left) (first n : ℕ)
    (window : IsWindow S mode arrivals p first n) where
  -- behind its first tick no more is left than may be where it begins and what came, less one
  behind_first : first < n
      → left (suc first) + 1 ≤ first_cost costs first + coming S mode arrivals costs first
  behind_first less = go (has_work_after S mode arrivals p first) refl
    where
      going : (run S mode arrivals (suc first)).state.over ≡ false
      going = going_early S mode arrivals n (suc first) (omega (arith, less)) window.going

      busy : is_busy S mode arrivals p first ≡ true
      busy = window.busy first (omega arith) (omega (arith, less))

      behind : has_work_after S mode arrivals p (suc first) ≡ true
      behind = window.joined (suc first) (omega arith) (omega (arith, less))

      go : (b : Bool) → has_work_after S mode arrivals p first ≡ b
          → left (suc first) + 1 ≤ first_cost costs first + coming S mode arrivals costs first
      go true stood =
          let low =
          potential.rises first (going_before S mode arrivals first going) window.begins stood in
          let less_left = potential.falls first going busy stood behind in
          omega (arith, low, less_left)
      go false none = potential.begins first going busy none behind

  -- behind so many of its ticks as much less as they are
  behind_some : (count : ℕ) → first + count < n
      → left (suc (first + count)) + suc count
      ≤ first_cost costs first + came S mode arrivals costs first (suc count)
  behind_some zero less =
      let here : first + 0 ≡ first = omega arith in
      let one = behind_first (omega (arith, less)) in
      subst
      (λ (k : ℕ). left (suc k) + 1 ≤ first_cost costs first + (0 + coming S mode arrivals costs k))
      (sym here) (omega (arith, one))
  behind_some (suc count) less =
      let next : first + suc count ≡ suc (first + count) = omega arith in
      let before = behind_some count (omega (arith, less)) in
      let going =
      going_early S mode arrivals n (suc (first + suc count)) (omega (arith, less)) window.going in
      let busy = window.busy (first + suc count) (omega arith) (omega (arith, less)) in
      let stood = window.joined (first + suc count) (omega arith) (omega (arith, less)) in
      let behind = window.joined (suc (first + suc count)) (omega arith) (omega (arith, less)) in
      let falls = potential.falls (first + suc count) going busy stood behind in
      let same : left (first + suc count) ≡ left (suc (first + count)) = ap left next in
      omega (arith, before, falls, same)

  window_is_short : (count : ℕ) → 1 ≤ count → AreEnough S mode arrivals costs first count
      → n < first + count
  window_is_short zero some enough = absurd (omega (arith, some))
  window_is_short (suc count) some enough = elim (cases_lt n (first + suc count)) [
    | inl short ↦ short
    | inr long ↦
        let next : first + suc count ≡ suc (first + count) = omega arith in
        let low = behind_some count (omega (arith, long)) in
        let going : (run S mode arrivals (first + suc count)).state.over ≡ false =
        going_early S mode arrivals n (first + suc count) long window.going in
        let stands = window.joined (first + suc count) (omega arith) long in
        let some_left = potential.positive (first + suc count) going stands in
        let same : left (first + suc count) ≡ left (suc (first + count)) = ap left next in
        absurd (omega (arith, low, some_left, same, enough))
  ]

pub windows_are_short : WindowsAreShort
windows_are_short S mode arrivals p costs left first n count potential window some enough =
    window_is_short S mode arrivals p costs left potential first n window count some enough
