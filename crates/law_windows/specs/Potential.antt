-- A potential of a run: how much work of a level is left at most between two ticks, counted with
-- all that comes of it. And that windows are short by it.
use Rattle.std.specs.Prelude.{ℕ, suc, ◌+◌, ◌≡◌, ◌<◌, ◌≤◌, true, false, List}
use Rattle.osek_base.specs.declared.arrivals.Arrival.{Arrival}
use Rattle.osek_base.specs.System.{System}
use Rattle.osek_base.specs.Trace.{run}
use Rattle.law_windows.specs.Work.{has_work_after, is_busy}
use Rattle.law_windows.specs.Windows.{IsWindow, goes_on_with}
use Rattle.law_windows.specs.Coming.{Costs, came, coming, first_cost}

-- left n is what is left behind n ticks, while the run isn't over then
pub record IsPotential (S : System) (mode : ℕ) (arrivals : List Arrival) (p : ℕ) (costs : Costs)
    (left : ℕ → ℕ) : Type 0 where
  -- where work stands, something is left
  pub positive : (n : ℕ) → (run S mode arrivals n).state.over ≡ false
      → has_work_after S mode arrivals p n ≡ true → 1 ≤ left n
  -- a busy tick before and behind which work stands takes one at least, but for what comes in it
  pub falls : (n : ℕ) → (run S mode arrivals (suc n)).state.over ≡ false
      → is_busy S mode arrivals p n ≡ true → has_work_after S mode arrivals p n ≡ true
      → has_work_after S mode arrivals p (suc n) ≡ true
      → left (suc n) + 1 ≤ left n + coming S mode arrivals costs n
  -- where work stands behind boot, or behind a tick that wasn't busy, no more is left than may be
  -- where a window begins
  pub rises : (n : ℕ) → (run S mode arrivals n).state.over ≡ false
      → goes_on_with S mode arrivals p n ≡ false → has_work_after S mode arrivals p n ≡ true
      → left n ≤ first_cost costs n
  -- where a window begins within a tick, one less behind it than that and what comes in the tick
  pub begins : (n : ℕ) → (run S mode arrivals (suc n)).state.over ≡ false
      → is_busy S mode arrivals p n ≡ true → has_work_after S mode arrivals p n ≡ false
      → has_work_after S mode arrivals p (suc n) ≡ true
      → left (suc n) + 1 ≤ first_cost costs n + coming S mode arrivals costs n

-- ---- the law

-- so many ticks are enough for a window that begins in that tick: as many as may be left there and
-- as come in them
abbrev pub AreEnough : System → ℕ → List Arrival → Costs → ℕ → ℕ → Type 0
AreEnough S mode arrivals costs first count =
    first_cost costs first + came S mode arrivals costs first count ≤ count

-- then it has no more
abbrev pub WindowsAreShort : Type 0
WindowsAreShort =
    (S : System) (mode : ℕ) (arrivals : List Arrival) (p : ℕ) (costs : Costs) (left : ℕ → ℕ)
    (first n count : ℕ) → IsPotential S mode arrivals p costs left
    → IsWindow S mode arrivals p first n → 1 ≤ count
    → AreEnough S mode arrivals costs first count → n < first + count
