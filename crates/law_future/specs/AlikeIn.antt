-- OSEK/VDX OS: alarms, counters and alarm management; the modelled processor. States between which
-- only absolute time and data that isn't needed differ, and that they have one next tick but for
-- values.
use Rattle.std.specs.Prelude.{ℕ, ◌≡◌, List, map}
use Rattle.osek_base.specs.System.{System}
use Rattle.osek_base.specs.Proper.{IsProper}
use Rattle.law_kept.specs.Kept.{Kept}
use Rattle.law_kept.specs.KeptTick.{before_execution_in, tick_in}
use Rattle.law_future.specs.Need.{Need, Suffices}
use Rattle.law_future.specs.Same.{cleaned, HasAllowedIndices, blanked}
use Rattle.law_future.specs.Alike.{untimed, AreAlikeBy}

-- two states are alike in what is needed: between them only absolute time, data that isn't needed
-- and values of counters that aren't needed differ
abbrev pub AreAlikeIn : System → Need → Kept → Kept → Type 0
AreAlikeIn S need o p = AreAlikeBy S need.counters (cleaned need o) (cleaned need p)

-- ---- one tick

-- the state in which a tick executes its instruction, but for time and data that isn't needed
abbrev pub executing_in : System → Need → List ℕ → Kept → Kept
executing_in S need arrived o = cleaned need (untimed (before_execution_in S arrived o).state)

-- two ticks record the same but for values, execute in states that are the same but for time and
-- data that isn't needed, and leave states that are alike in what is needed, in which registers
-- have only indices that they may have
pub record TicksAreAlikeIn (S : System) (need : Need) (arrived : List ℕ) (o p : Kept) : Type 0 where
  pub events : map blanked (tick_in S arrived o).events ≡ map blanked (tick_in S arrived p).events
  pub executing : executing_in S need arrived o ≡ executing_in S need arrived p
  pub after : AreAlikeIn S need (tick_in S arrived o).after (tick_in S arrived p).after
  pub indices : HasAllowedIndices need (tick_in S arrived o).after
  pub indices_too : HasAllowedIndices need (tick_in S arrived p).after

-- under the same arrivals, where the need suffices
abbrev pub AlikeInTicks : Type 0
AlikeInTicks =
    (S : System) (need : Need) (arrived : List ℕ) (o p : Kept) → IsProper S → Suffices S need
    → HasAllowedIndices need o → HasAllowedIndices need p → AreAlikeIn S need o p
    → TicksAreAlikeIn S need arrived o p
