-- Windows one by one, as code counts them: by when alarms expire, and what a level costs.
use Rattle.std.specs.Prelude.{ℕ, ◌+◌, ◌*◌, ◌%◌, ◌<◌, ◌≤◌, ◌≡◌, ◌==◌, ◌&&◌, nat_le, Bool, true, List, length}
use Rattle.std.specs.List.{sum_by}
use Rattle.osek_base.specs.Lists.{below}
use Rattle.osek_base.specs.System.{System}
use Rattle.arrival_rules.specs.declared.rule.ArrivalRule.{ArrivalRule}
use Rattle.law_windows.specs.Coming.{first_cost}
use Rattle.law_windows.specs.KnownTicks.{AreShortAtExpiries, IsRound}
use Rattle.analysis_bounds.specs.declared.level.Level.{Level}
use Rattle.analysis_bounds.specs.declared.timing.Timing.{Timing}
use Rattle.analysis_bounds.specs.Coming.{arrivals_cost}
use Rattle.analysis_bounds.specs.Levels.{costs_of, numbered}
use Rattle.analysis_bounds.specs.Timing.{timing_in, often_from}

-- ---- rounds

-- whether from a first tick on no more expiries lie in as many ticks a round later
abbrev pub is_again : Timing → ℕ → ℕ → Bool
is_again Timing.Never first round = true
is_again (Timing.Once tick) first round = nat_le tick first
is_again (Timing.Each tick gap) first round = nat_le tick first && round % gap == 0
is_again (Timing.Apart gap) first round = true

-- .. those of the first of all alarms, where an expiry costs something
abbrev pub AreAgain : List Timing → Level → ℕ → ℕ → ℕ → Type 0
AreAgain timings level first round count =
    (a : ℕ) → a < count → 1 ≤ numbered level.expiries.items a
    → is_again (timing_in timings a) first round ≡ true

pub record IsSomeRound (S : System) (level : Level) (timings : List Timing) (first round : ℕ)
    : Type 0 where
  pub later : 1 ≤ first
  pub some : 1 ≤ round
  pub again : AreAgain timings level first round (length S.alarms)

-- ---- windows

-- what the expiries of the first alarms cost in so many ticks, from one on
abbrev pub known_cost : List Timing → Level → ℕ → ℕ → ℕ → ℕ
known_cost timings level from count alarms =
    sum_by (λ a. often_from (timing_in timings a) from count * numbered level.expiries.items a)
    (below alarms)

-- what is needed for a window that begins in that tick and has so many
abbrev pub needed_from : System → List ArrivalRule → Level → List Timing → ℕ → ℕ → ℕ
needed_from S rules level timings from count =
    first_cost (costs_of level) from
    + (arrivals_cost rules level count (length S.routines)
    + known_cost timings level from count (length S.alarms))

-- one that begins in that tick has so many ticks at most: some number of them is enough for it
pub record IsShort (S : System) (rules : List ArrivalRule) (level : Level)
    (timings : List Timing) (most from : ℕ) : Type 0 where
  pub count : ℕ
  pub some : 1 ≤ count
  pub low : count ≤ most
  pub enough : needed_from S rules level timings from count ≤ count

-- .. each that begins in a known tick of an alarm, before another
abbrev pub AreShortAt : Timing → System → List ArrivalRule → Level → List Timing → ℕ → ℕ → Type 0
AreShortAt Timing.Never S rules level timings most horizon = Unit {0}
AreShortAt (Timing.Once tick) S rules level timings most horizon =
    tick < horizon → IsShort S rules level timings most tick
AreShortAt (Timing.Each first gap) S rules level timings most horizon =
    (k : ℕ) → first + k * gap < horizon → IsShort S rules level timings most (first + k * gap)
AreShortAt (Timing.Apart gap) S rules level timings most horizon = Unit {0}

-- .. of those that lie a gap apart, so many were looked at, and this is the next one
pub record AreTried (S : System) (rules : List ArrivalRule) (level : Level)
    (timings : List Timing) (most first gap horizon tick : ℕ) : Type 0 where
  pub tried : ℕ
  pub is : tick ≡ first + tried * gap
  pub each : (k : ℕ) → k < tried → first + k * gap < horizon
      → IsShort S rules level timings most (first + k * gap)

-- .. of the first of all alarms, where an expiry costs something
abbrev pub AreAllShortAt : System → List ArrivalRule → Level → List Timing → ℕ → ℕ → ℕ → Type 0
AreAllShortAt S rules level timings most horizon count =
    (a : ℕ) → a < count → 1 ≤ numbered level.expiries.items a
    → AreShortAt (timing_in timings a) S rules level timings most horizon

pub record AreShort (S : System) (rules : List ArrivalRule) (level : Level)
    (timings : List Timing) (most first horizon : ℕ) : Type 0 where
  pub at_boot : IsShort S rules level timings most 0
  pub at_first : IsShort S rules level timings most first
  pub at_known : AreAllShortAt S rules level timings most horizon (length S.alarms)

-- ---- in the words of the law

pub record AreShortByRounds (S : System) (mode : ℕ) (rules : List ArrivalRule) (level : Level)
    (least : List ℕ) (most : ℕ) : Type 0 where
  pub first : ℕ
  pub round : ℕ
  pub is_round : IsRound S mode (costs_of level) first round
  pub short : AreShortAtExpiries S mode rules (costs_of level) (numbered least) most first
      (first + round)
