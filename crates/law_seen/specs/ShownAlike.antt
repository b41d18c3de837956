-- States that are alike show the same, and so do states that have the same needed data.
use Rattle.std.specs.Prelude.{ℕ, ◌≡◌, Bool, List}
use Rattle.std.specs.Option.{option_map}
use Rattle.osek_base.specs.Proper.{IsProper}
use Rattle.osek_base.specs.System.{System}
use Rattle.law_kept.specs.Kept.{Kept}
use Rattle.law_future.specs.Alike.{AreAlikeBy}
use Rattle.law_future.specs.Need.{HaveAsked, Need, Suffices}
use Rattle.law_future.specs.Same.{HasAllowedIndices, HaveSameNeeded}
use Rattle.seen_ticks.specs.Observed.{answered, failure_of, owner_of}
use Rattle.law_seen.specs.Shown.{KeptTicked, alarm_seen_in, holders_seen_in, routine_seen_in, task_seen_in, ticked_in}

-- two ticks show the same
pub record AreShownAlike (S : System) (x y : KeptTicked) : Type 0 where
  pub executor : option_map owner_of x.executed ≡ option_map owner_of y.executed
  pub answered : answered x.executed ≡ answered y.executed
  pub failure : failure_of x.executed ≡ failure_of y.executed
  pub tasks : (t : ℕ) → task_seen_in S x t ≡ task_seen_in S y t
  pub routines : (i : ℕ) → routine_seen_in x i ≡ routine_seen_in y i
  pub holders : holders_seen_in S x.at ≡ holders_seen_in S y.at
  pub alarms : (a : ℕ) → alarm_seen_in x a ≡ alarm_seen_in y a

-- ---- laws, where the same routines arrive

-- between which only absolute time differs, and values of counters that no program asks for
abbrev pub AlikeShow : Type 0
AlikeShow =
    (S : System) (valued : ℕ → Bool) (first : Bool) (arrived : List ℕ) (o p : Kept) → IsProper S
    → HaveAsked S valued → AreAlikeBy S valued o p
    → AreShownAlike S (ticked_in S first arrived o) (ticked_in S first arrived p)

-- that have the same needed data, and registers with indices that they may have
abbrev pub SameNeededShow : Type 0
SameNeededShow =
    (S : System) (need : Need) (first : Bool) (arrived : List ℕ) (o p : Kept) → Suffices S need
    → HasAllowedIndices need o → HasAllowedIndices need p → HaveSameNeeded need o p
    → AreShownAlike S (ticked_in S first arrived o) (ticked_in S first arrived p)
