-- A row of busy ticks lies in one window: it is gone back to where that begins.
use Rattle.std.proofs.Common.{ℕ, zero, suc, ◌≡◌, ◌<◌, ◌≤◌, inl, inr, Bool, true, false, List, refl, subst, arith}
use Rattle.std.proofs.lemmas.Bool.{and_parts, cases_lt}
use Rattle.osek_base.specs.declared.arrivals.Arrival.{Arrival}
use Rattle.osek_base.specs.System.{System}
use Rattle.osek_base.specs.Trace.{run}
use Rattle.law_windows.specs.Work.{has_work_after, is_busy}
use Rattle.law_windows.specs.Windows.{BusyTicksLieInWindows, LieInAWindow, goes_on_with}

module _ (S : System) (mode : ℕ) (arrivals : List Arrival) (p n : ℕ)
    (going : (run S mode arrivals n).state.over ≡ false) where
  abbrev Busy : ℕ → Type 0
  Busy from = (i : ℕ) → from ≤ i → i ≤ n → is_busy S mode arrivals p i ≡ true

  abbrev Joined : ℕ → Type 0
  Joined from = (i : ℕ) → from < i → i ≤ n → has_work_after S mode arrivals p i ≡ true

  here : (from : ℕ) → from ≤ n → Busy from → Joined from
      → goes_on_with S mode arrivals p from ≡ false → LieInAWindow S mode arrivals p from n
  here from order busy joined begins = record {
    first = from;
    early = omega arith;
    window =
        record { order = order; going = going; busy = busy; joined = joined; begins = begins };
  }

  busy_before : (from : ℕ) → Busy (suc from) → is_busy S mode arrivals p from ≡ true → Busy from
  busy_before from busy before i low high = elim (cases_lt from i) [
    | inl later ↦ busy i later high
    | inr first ↦
        let same : from ≡ i = omega (arith, low, first) in
        subst (λ (k : ℕ). is_busy S mode arrivals p k ≡ true) same before
  ]

  joined_before : (from : ℕ) → Joined (suc from)
      → has_work_after S mode arrivals p (suc from) ≡ true → Joined from
  joined_before from joined before i low high = elim (cases_lt (suc from) i) [
    | inl later ↦ joined i later high
    | inr first ↦
        let same : suc from ≡ i = omega (arith, low, first) in
        subst (λ (k : ℕ). has_work_after S mode arrivals p k ≡ true) same before
  ]

  earlier : (from : ℕ) → LieInAWindow S mode arrivals p from n
      → LieInAWindow S mode arrivals p (suc from) n
  earlier from found =
      let early = found.early in
      record { first = found.first; early = omega (arith, early); window = found.window }

  go_back : (from : ℕ) → from ≤ n → Busy from → Joined from → LieInAWindow S mode arrivals p from n
  go_back zero order busy joined = here zero order busy joined refl
  go_back (suc from) order busy joined =
      go (goes_on_with S mode arrivals p (suc from)) refl
      (λ before stood.
      go_back from (omega (arith, order)) (busy_before from busy before)
      (joined_before from joined stood))
    where
      go : (b : Bool) → goes_on_with S mode arrivals p (suc from) ≡ b
          → (is_busy S mode arrivals p from ≡ true
          → has_work_after S mode arrivals p (suc from) ≡ true
          → LieInAWindow S mode arrivals p from n)
          → LieInAWindow S mode arrivals p (suc from) n
      go false begins back = here (suc from) order busy joined begins
      go true both back =
          let parts =
          and_parts (is_busy S mode arrivals p from) (has_work_after S mode arrivals p (suc from))
          both in
          earlier from (back parts.0 parts.1)

pub busy_ticks_lie_in_windows : BusyTicksLieInWindows
busy_ticks_lie_in_windows S mode arrivals p from n order going busy joined =
    go_back S mode arrivals p n going from order busy joined
