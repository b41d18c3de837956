-- Runs that are walked, tick by tick.
use Rattle.std.specs.Prelude.{ℕ, ◌+◌, ◌≡◌, ◌≤◌, false, List, map}
use Rattle.osek_base.specs.declared.arrivals.Arrival.{Arrival}
use Rattle.osek_base.specs.Proper.{IsProper}
use Rattle.osek_base.specs.System.{System}
use Rattle.osek_base.specs.Trace.{arriving, run}
use Rattle.kernel.specs.Machine.{Machine, next_tick, picture, system_of}
use Rattle.kernel.specs.Progress.{AreKnown, AreLeft}
use Rattle.law_future.specs.Need.{Need}
use Rattle.seen_ticks.specs.declared.observation.Observation.{Observation}
use Rattle.seen_ticks.specs.Seen.{seen_of}
use Rattle.view_figures.specs.declared.task_tick.TaskTick.{TaskTick}
use Rattle.view_figures.specs.ResponseSums.{standing}
use Rattle.view_figures.specs.StateSums.{leaves}
use Rattle.law_future.specs.Alike.{kept_after}
use Rattle.law_seen.specs.Seen.{seen_in}
use Rattle.search_keys.specs.Key.{key}
use Rattle.law_bounds.specs.Unending.{StandsBetween}

-- a job stands ready or runs, and the oldest neither ends nor begins to wait
pub record IsStanding (t : TaskTick) : Type 0 where
  pub stands : 1 ≤ standing t
  pub stays : leaves t ≡ false

-- a run wasn't over before a tick, and so much was seen of it
pub record IsShown (S : System) (mode : ℕ) (arrivals : List Arrival) (n : ℕ)
    (o : Observation) : Type 0 where
  pub going : (run S mode arrivals n).state.over ≡ false
  pub seen : seen_of o ≡ seen_in S (arriving arrivals n) (kept_after S mode arrivals n)

-- a run has come to a machine; of its arrivals so many have come before the machine's next tick,
-- and its last tick was seen
pub record IsWalk (S : System) (mode : ℕ) (arrivals : List Arrival) (lent : List ℕ)
    (came : ℕ) (m : Machine) (seen : Observation) : Type 0 where
  pub proper : IsProper S
  pub known : AreKnown S arrivals
  pub routines : lent ≡ map (λ (a : Arrival). a.routine) arrivals
  pub left : AreLeft arrivals came (next_tick m)
  pub system : system_of m ≡ S
  pub state : picture m ≡ kept_after S mode arrivals (next_tick m)
  pub last : (n : ℕ) → next_tick m ≡ n + 1 → IsShown S mode arrivals n seen

-- a run comes to states of one key before two ticks, and a job of a task stands in each between
pub record ComesTwice (S : System) (mode : ℕ) (need : Need) (arrivals : List Arrival)
    (from until k : ℕ) : Type 0 where
  pub key : key S need (kept_after S mode arrivals from)
      ≡ key S need (kept_after S mode arrivals until)
  pub stands : StandsBetween S mode arrivals from until k
