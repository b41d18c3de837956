-- OSEK/VDX OS: task management; interrupt processing, category 2. What windows bound: for how long
-- jobs are READY or RUNNING, and routines pending.
use Rattle.std.specs.Prelude.{ℕ, suc, ◌+◌, ◌≡◌, ◌<◌, ◌≤◌, true, false, List, length}
use Rattle.osek_base.specs.declared.arrivals.Arrival.{Arrival}
use Rattle.osek_base.specs.State.{JobId}
use Rattle.osek_base.specs.System.{System, priority_of}
use Rattle.osek_base.specs.Tick.{is_pending}
use Rattle.osek_base.specs.Trace.{run}
use Rattle.law_jobs.specs.ReadySince.{IsReadySince}
use Rattle.law_windows.specs.Windows.{WindowsEndWithin}
use Rattle.law_windows.specs.Work.{goes_at}

-- a routine is pending behind each tick from one on, up to another
abbrev pub PendsBehind : System → ℕ → List Arrival → ℕ → ℕ → ℕ → Type 0
PendsBehind S mode arrivals i since n =
    (t : ℕ) → since ≤ t → t ≤ n → is_pending (run S mode arrivals (suc t)).state i ≡ true

-- in no window are responses longer than it may be
pub record RespondWithin (S : System) (mode : ℕ) (arrivals : List Arrival) (p most : ℕ)
    : Type 0 where
  -- a job of the level that is ready since a tick isn't READY or RUNNING so many ticks later: it
  -- has ended or begun to wait, or the run is over
  pub jobs : (n since : ℕ) (job : JobId) → (run S mode arrivals n).state.over ≡ false
      → p ≤ priority_of S job.task → IsReadySince S mode arrivals n job since → n < since + most
  -- a routine of the level that is pending behind a tick starts before so many ticks have passed
  pub routines : (n since i : ℕ) → (run S mode arrivals (suc n)).state.over ≡ false
      → i < length S.routines → goes_at S p i ≡ true → since ≤ n
      → PendsBehind S mode arrivals i since n → suc n < since + most

-- ---- the law

abbrev pub ResponsesLieInWindows : Type 0
ResponsesLieInWindows =
    (S : System) (mode : ℕ) (arrivals : List Arrival) (p most : ℕ)
    → WindowsEndWithin S mode arrivals p most → RespondWithin S mode arrivals p most
