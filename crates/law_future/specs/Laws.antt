-- What isn't needed changes nothing: ticks and runs from states that have the same needed data.
use Rattle.std.specs.Prelude.{ℕ, List}
use Rattle.osek_base.specs.declared.arrivals.Arrival.{Arrival}
use Rattle.osek_base.specs.System.{System}
use Rattle.osek_base.specs.Proper.{IsProper}
use Rattle.osek_base.specs.Trace.{run}
use Rattle.law_kept.specs.Kept.{Kept, kept}
use Rattle.law_kept.specs.KeptTick.{tick_in}
use Rattle.law_future.specs.Need.{Need, Suffices}
use Rattle.law_future.specs.Same.{HaveSameNeeded, AreStepsOfSame, HasAllowedIndices}

-- one tick of states whose registers have what they may have, which they do after it too
abbrev pub TicksKeepSame : Type 0
TicksKeepSame =
    (S : System) (need : Need) (arrived : List ℕ) (o p : Kept) → Suffices S need → HasAllowedIndices need o → HasAllowedIndices need p
    → HaveSameNeeded need o p → AreStepsOfSame need (tick_in S arrived o) (tick_in S arrived p)

-- what is kept of a run's state after n ticks, and the tick that follows it
abbrev pub kept_after : System → ℕ → List Arrival → ℕ → Kept
kept_after S mode arrivals n = kept S (run S mode arrivals n).state

-- in each state of a run registers have what they may have
abbrev pub RunsKeepIndices : Type 0
RunsKeepIndices =
    (S : System) (need : Need) (mode : ℕ) (arrivals : List Arrival) (n : ℕ) → IsProper S → Suffices S need
    → HasAllowedIndices need (kept_after S mode arrivals n)
