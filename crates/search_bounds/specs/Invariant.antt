-- What holds of an explorer all the time.
use Rattle.std.specs.Prelude.{◌≡◌, false}
use Rattle.kernel.specs.Machine.{IsOfRun, Machine, system_of}
use Rattle.search_nodes.specs.Ground.{Ground, IsGround}
use Rattle.search_bounds.specs.Exploring.{Explorer}

-- the machines of states and the one that is ticked are of the system
pub record IsExploring (e : Explorer) (kept : Ground) (current : Machine) : Type 0 where
  pub ground : IsGround e.ground
  pub machines : kept ≡ e.ground
  pub system : system_of current ≡ e.ground.system
  pub of_run : IsOfRun false current
