-- What is seen of the ticks of a run.
use Rattle.std.specs.Prelude.{ℕ, suc, ◌≡◌, ◌<◌, ◌≤◌, ◌+◌, ◌-◌, ◌⊎◌, Bool, true, false, min, length, List, [], ◌∷◌}
use Rattle.osek_base.specs.declared.arrivals.Arrival.{Arrival}
use Rattle.osek_base.specs.declared.limits.TheConstants.{MAX_TICKS}
use Rattle.osek_base.specs.System.{System}
use Rattle.osek_base.specs.Trace.{run}
use Rattle.kernel.specs.Progress.{Progress, is_over}
use Rattle.law_blockers.specs.Steps.{record_at}
use Rattle.seen_ticks.specs.declared.observation.Observation.{Observation}
use Rattle.seen_ticks.specs.Observed.{IsObserved}
use Rattle.seen_ticks.specs.Seen.{alike_ticks}
use Rattle.view_timelines.specs.Marks.{LeaveNothing}
use Rattle.view_dumps.specs.Ticks.{events_text}

-- what is seen of the ticks of a run from tick t on, one after another, with the numbers of blockers where these are counted
abbrev pub AreSeen : Bool → System → ℕ → List Arrival → ℕ → List Observation → Type 0
AreSeen counted S mode arrivals t [] = Unit {0}
AreSeen counted S mode arrivals t (o ∷ seen) = IsObserved counted S mode arrivals t o × AreSeen counted S mode arrivals (suc t) seen

-- what is seen of so many ticks of a run: of as many as it has where so many are asked for, at most 1,000,000, and fewer after a
-- ShutdownOS
pub record SeesRun (counted : Bool) (r : Progress) (ticks : ℕ) : Type 0 where
  pub seen : List Observation
  pub each : AreSeen counted r.system r.mode r.arrivals 0 seen
  pub all : length seen ≡ length (run r.system r.mode r.arrivals (min ticks MAX_TICKS)).steps

-- some ticks of a run are done, before each of which it goes on, and of each this is seen
pub record SeesTicks (counted : Bool) (r after : Progress) (seen : List Observation) : Type 0 where
  pub each : AreSeen counted r.system r.mode r.arrivals r.ticks seen
  pub going : (k : ℕ) → k < length seen → is_over (record r { ticks = r.ticks + k }) ≡ false
  pub next : after ≡ record r { ticks = r.ticks + length seen }

-- this is seen of the tick that was done last
abbrev pub IsLast : Bool → Progress → Observation → Type 0
IsLast counted r o = IsObserved counted r.system r.mode r.arrivals (r.ticks - 1) o

-- one tick more is done, before as many as asked for are
pub record DoesNext (counted : Bool) (ticks : ℕ) (old new : Progress) : Type 0 where
  pub further : old.ticks < new.ticks
  pub within : new.ticks ≤ ticks
  pub sees : (o : Observation) → IsLast counted new o → SeesTicks counted old new (o ∷ [])

-- nothing is done, as none is left of so many ticks, or the run is over
pub record HasNone (ticks : ℕ) (old new : Progress) : Type 0 where
  pub same : new ≡ old
  pub none : (ticks ≤ old.ticks) ⊎ (is_over old ≡ true)

-- the ticks from one on are done, before as many as asked for are: in each but for the number the same is seen, and no event, and
-- its records leave no mark
pub record PassesSome (counted : Bool) (ticks : ℕ) (old new : Progress) (first : ℕ) : Type 0 where
  pub begins : first ≡ old.ticks
  pub further : first < new.ticks
  pub within : new.ticks ≤ ticks
  pub calm : (o : Observation) → IsLast counted new o → events_text o ≡ []
  pub unmarked : (t : ℕ) → first ≤ t → t < new.ticks → LeaveNothing (record_at old.system old.mode old.arrivals t)
  pub sees : (o : Observation) → IsLast counted new o → SeesTicks counted old new (alike_ticks o first (new.ticks - first))
