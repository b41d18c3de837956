-- Machines, and the keys of their states.
use Rattle.std.specs.Prelude.{ℕ, ◌≡◌, ◌<◌, Bool, false, true, List}
use Rattle.osek_base.specs.declared.limits.TheConstants.{MAX_TICKS}
use Rattle.osek_base.specs.System.{System}
use Rattle.law_kept.specs.Kept.{Kept}
use Rattle.law_kept.specs.KeptTick.{tick_in}
use Rattle.seen_ticks.specs.declared.observation.Observation.{Observation}
use Rattle.seen_ticks.specs.Seen.{seen_of}
use Rattle.law_seen.specs.Seen.{executor_in, failure_in, seen_in}
use Rattle.search_needs.specs.Table.{need_of}
use Rattle.search_nodes.specs.Ground.{Ground}
use Rattle.kernel.specs.Machine.{IsOfRun, Machine, next_tick, picture, system_of}
use Rattle.search_keys.specs.Key.{key}

-- the key of a machine's state
abbrev pub key_of : Ground → Machine → List ℕ
key_of g m = key g.system (need_of g.needs) (picture m)

-- a machine is in the state behind a tick of another one, and what is seen of it
pub record Ticked (S : System) (arrived : List ℕ) (o : Kept) (n : Machine) (w : Observation)
    : Type 0 where
  pub after : picture n ≡ (tick_in S arrived o).after
  pub seen : seen_of w ≡ seen_in S arrived o
  pub executor : w.executor ≡ executor_in S arrived o
  pub failure : w.failure ≡ failure_in S arrived o

-- a machine of the system is in a state with a key, and can go on
pub record IsIn (g : Ground) (bytes : List ℕ) (m : Machine) : Type 0 where
  pub system : system_of m ≡ g.system
  pub key : key_of g m ≡ bytes
  pub of_run : IsOfRun false m
  pub going : (picture m).over ≡ false
  pub left : next_tick m < MAX_TICKS

-- a machine is of the system
pub record IsOf (S : System) (m : Machine) : Type 0 where
  pub system : system_of m ≡ S
  pub of_run : IsOfRun false m

-- the machine of the node that is visited, and the key of its state, once it was made
pub record IsOrigin (g : Ground) (m : Machine) (bytes : List ℕ) (is_made : Bool) : Type 0 where
  pub system : system_of m ≡ g.system
  pub of_run : IsOfRun false m
  pub key : is_made ≡ true → key_of g m ≡ bytes
