-- Windows of a level: ticks in a row in which its work never comes to an end.
use Rattle.std.specs.Prelude.{ℕ, zero, suc, ◌+◌, ◌≡◌, ◌<◌, ◌≤◌, Bool, true, false, ◌&&◌, List}
use Rattle.osek_base.specs.declared.arrivals.Arrival.{Arrival}
use Rattle.osek_base.specs.System.{System}
use Rattle.osek_base.specs.Trace.{run}
use Rattle.law_windows.specs.Work.{has_work_after, is_busy}

-- whether a tick goes on with work of the one before: that was busy, and work stands behind it
abbrev pub goes_on_with : System → ℕ → List Arrival → ℕ → ℕ → Bool
goes_on_with S mode arrivals p zero = false
goes_on_with S mode arrivals p (suc n) =
    is_busy S mode arrivals p n && has_work_after S mode arrivals p (suc n)

-- a window, from its first tick to one of its ticks: all of them are busy, behind each but the
-- last work stands, and the first doesn't go on with work of the one before. The run isn't over
-- before the last
pub record IsWindow (S : System) (mode : ℕ) (arrivals : List Arrival) (p first n : ℕ)
    : Type 0 where
  pub order : first ≤ n
  pub going : (run S mode arrivals n).state.over ≡ false
  pub busy : (i : ℕ) → first ≤ i → i ≤ n → is_busy S mode arrivals p i ≡ true
  pub joined : (i : ℕ) → first < i → i ≤ n → has_work_after S mode arrivals p i ≡ true
  pub begins : goes_on_with S mode arrivals p first ≡ false

-- no window of the level has more than so many ticks
abbrev pub WindowsEndWithin : System → ℕ → List Arrival → ℕ → ℕ → Type 0
WindowsEndWithin S mode arrivals p most =
    (first n : ℕ) → IsWindow S mode arrivals p first n → n < first + most

-- ---- the law

-- a row of busy ticks between which work stands lies in one window
pub record LieInAWindow (S : System) (mode : ℕ) (arrivals : List Arrival) (p from n : ℕ)
    : Type 0 where
  pub first : ℕ
  pub early : first ≤ from
  pub window : IsWindow S mode arrivals p first n

abbrev pub BusyTicksLieInWindows : Type 0
BusyTicksLieInWindows =
    (S : System) (mode : ℕ) (arrivals : List Arrival) (p from n : ℕ) → from ≤ n
    → (run S mode arrivals n).state.over ≡ false
    → ((i : ℕ) → from ≤ i → i ≤ n → is_busy S mode arrivals p i ≡ true)
    → ((i : ℕ) → from < i → i ≤ n → has_work_after S mode arrivals p i ≡ true)
    → LieInAWindow S mode arrivals p from n
