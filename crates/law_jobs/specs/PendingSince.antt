-- OSEK/VDX OS: interrupt processing, category 2. Since which tick an interrupt is pending, and for
-- how long it waits for its routine's start.
use Rattle.std.specs.Prelude.{ℕ, suc, ◌≡◌, ◌<◌, ◌≤◌, ◌-◌, Bool, true, false, not, ◌&&◌, if◌then◌else◌, List, Some, length}
use Rattle.osek_base.specs.declared.arrivals.Arrival.{Arrival}
use Rattle.osek_base.specs.Proper.{IsProper}
use Rattle.osek_base.specs.State.{State}
use Rattle.osek_base.specs.System.{System}
use Rattle.osek_base.specs.Tick.{is_pending}
use Rattle.osek_base.specs.Trace.{run}
use Rattle.law_blockers.specs.Steps.{step_at}
use Rattle.law_future.specs.Shown.{arrives}
use Rattle.seen_ticks.specs.Observed.{active_routine, is_number}
use Rattle.law_figures.specs.Pending.{pending, start_latency}
use Rattle.law_figures.specs.RunFigures.{label_before, routine_ticks}
use Rattle.law_figures.specs.Times.{waited}

abbrev pub is_active : State → ℕ → Bool
is_active s k = is_number k (active_routine s)

-- whether a routine starts in tick n: it is active at the instruction, and wasn't before the tick
abbrev pub starts_in : System → ℕ → List Arrival → ℕ → ℕ → Bool
starts_in S mode arrivals n k =
    is_active (step_at S mode arrivals n).executing k
    && not (is_active (run S mode arrivals n).state k)

-- an interrupt of a routine arrives in a tick and isn't lost: the flag is off before that tick
pub record IsTaken (S : System) (mode : ℕ) (arrivals : List Arrival) (k since : ℕ) : Type 0 where
  pub comes : arrives arrivals since k ≡ true
  pub first : is_pending (run S mode arrivals since).state k ≡ false

-- in tick n it is pending, or its routine starts: the flag is on before each tick that follows
pub record IsPendingSince (S : System) (mode : ℕ) (arrivals : List Arrival) (n k since : ℕ)
    : Type 0 where
  pub past : since ≤ n
  pub taken : IsTaken S mode arrivals k since
  pub between : (i : ℕ) → since < i → i ≤ n → is_pending (run S mode arrivals i).state k ≡ true

-- for how many ticks it has waited: up to tick n where its routine starts in it, else with it
abbrev pub ticks_waited : System → ℕ → List Arrival → ℕ → ℕ → ℕ → ℕ
ticks_waited S mode arrivals n k since =
    (if starts_in S mode arrivals n k then n else suc n) - since

-- in tick n an interrupt of a routine has waited for so many ticks
pub record IsWait (S : System) (mode : ℕ) (arrivals : List Arrival) (n k wait : ℕ) : Type 0 where
  pub since : ℕ
  pub pends : IsPendingSince S mode arrivals n k since
  pub ticks : wait ≡ ticks_waited S mode arrivals n k since

-- ---- the law

-- what figures go by in tick n is what an interrupt has waited, and what they count as a latency is
-- that of the one whose routine starts
pub record AreOfInterrupts (S : System) (mode : ℕ) (arrivals : List Arrival) (n k : ℕ)
    : Type 0 where
  pub waits : (wait : ℕ)
      → waited (routine_ticks S mode arrivals k n)
      (label_before pending (routine_ticks S mode arrivals k) n)
      ≡ Some wait
      → IsWait S mode arrivals n k wait
  -- of each that is pending
  pub all : (since : ℕ) → IsPendingSince S mode arrivals n k since
      → waited (routine_ticks S mode arrivals k n)
      (label_before pending (routine_ticks S mode arrivals k) n)
      ≡ Some (ticks_waited S mode arrivals n k since)
  pub latencies : (latency : ℕ)
      → start_latency (routine_ticks S mode arrivals k n)
      (label_before pending (routine_ticks S mode arrivals k) n)
      ≡ Some latency
      → (starts_in S mode arrivals n k ≡ true) × IsWait S mode arrivals n k latency

abbrev pub LatenciesAreOfInterrupts : Type 0
LatenciesAreOfInterrupts =
    (S : System) (mode : ℕ) (arrivals : List Arrival) (n k : ℕ) → IsProper S
    → (run S mode arrivals n).state.over ≡ false → k < length S.routines
    → AreOfInterrupts S mode arrivals n k
