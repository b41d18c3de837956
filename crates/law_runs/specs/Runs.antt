-- The laws of whole runs, for every proper system, mode, list of arrivals and number of ticks.
use Rattle.std.specs.Prelude.{ℕ, ◌≡◌, ◌<◌, ◌+◌, false, List, length}
use Rattle.std.specs.List.{AllByRecursion}
use Rattle.osek_base.specs.declared.limits.TheConstants.{MAX_TICKS}
use Rattle.osek_base.specs.declared.arrivals.Arrival.{Arrival}
use Rattle.osek_base.specs.System.{System}
use Rattle.osek_base.specs.Proper.{IsProper}
use Rattle.osek_base.specs.Tick.{tick}
use Rattle.osek_base.specs.Trace.{run, step_added}
use Rattle.osek_base.specs.Laws.{StartsSingly, Excludes, BlocksOnce, Protects}
use Rattle.law_runs.specs.Arrived.{AreArrivals, HaveOnePast, with_arrived}

-- in every run, of one task no job but the oldest is begun
abbrev pub AlwaysStartsSingly : Type 0
AlwaysStartsSingly =
    (S : System) (mode : ℕ) (arrivals : List Arrival) (n : ℕ) → IsProper S → StartsSingly S mode arrivals n

-- in every run, a resource that a job may take and is refused is held by that job itself
abbrev pub AlwaysExcludes : Type 0
AlwaysExcludes =
    (S : System) (mode : ℕ) (arrivals : List Arrival) (n : ℕ) → IsProper S → Excludes S mode arrivals n

-- in every run, each time that a job becomes ready, it has at most one blocker
abbrev pub AlwaysBlocksOnce : Type 0
AlwaysBlocksOnce =
    (S : System) (mode : ℕ) (arrivals : List Arrival) (n : ℕ) → IsProper S → BlocksOnce S mode arrivals n

-- in every run, while a job holds a resource its words change only by that job's own stores
abbrev pub AlwaysProtects : Type 0
AlwaysProtects =
    (S : System) (mode : ℕ) (arrivals : List Arrival) (n : ℕ) → IsProper S → Protects S mode arrivals n

-- a run of n ticks depends on what arrives in these ticks alone
abbrev pub DependsOnThePast : Type 0
DependsOnThePast =
    (S : System) (mode : ℕ) (a b : List Arrival) (n : ℕ) → HaveOnePast n a b → run S mode a n ≡ run S mode b n

-- whatever arrives in the next tick, the run goes on by it: with these routines behind the arrivals before, the run came here
-- too, and its next step is their tick
abbrev pub GoesOnByAny : Type 0
GoesOnByAny =
    (S : System) (mode : ℕ) (arrivals : List Arrival) (n : ℕ) (routines : List ℕ) → (run S mode arrivals n).state.over ≡ false
    → (run S mode (with_arrived n routines arrivals) n ≡ run S mode arrivals n)
    × (run S mode (with_arrived n routines arrivals) (n + 1)
    ≡ step_added (run S mode arrivals n) (tick S routines (run S mode arrivals n).state))

-- and these are arrivals that there may be
abbrev pub TakesAnyArrivals : Type 0
TakesAnyArrivals =
    (S : System) (n : ℕ) (routines : List ℕ) (arrivals : List Arrival) → n < MAX_TICKS
    → AllByRecursion (λ i. i < length S.routines) routines → AreArrivals S arrivals
    → AreArrivals S (with_arrived n routines arrivals)
