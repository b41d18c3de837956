-- OSEK/VDX OS: system start-up. What a kernel keeps of a run: a machine to which the run has come, the arrivals of the last
-- tick, those left, and behind the first tick that of the next.
use Rattle.std.specs.Prelude.{ℕ, ◌≡◌, ◌≤◌, ◌-◌, Bool, List, map, slice_range}
use Rattle.osek_base.specs.declared.arrivals.Arrival.{Arrival}
use Rattle.osek_base.specs.Proper.{IsProper}
use Rattle.osek_base.specs.System.{System}
use Rattle.osek_base.specs.Trace.{arriving}
use Rattle.kernel.specs.Machine.{HasCome, Machine, next_tick}
use Rattle.kernel.specs.Progress.{AreKnown, AreLeft, IsNextArrival}

pub record IsKernel (counted : Bool) (S : System) (mode : ℕ) (arrivals : List Arrival) (lent : List ℕ) (earlier cursor next : ℕ) (m : Machine) : Type 0 where
  pub proper : IsProper S
  pub known : AreKnown S arrivals
  pub routines : lent ≡ map (λ a. a.routine) arrivals
  pub left : AreLeft arrivals cursor (next_tick m)
  pub first : next_tick m ≡ 0 → next ≡ 0
  pub ahead : 1 ≤ next_tick m → IsNextArrival arrivals cursor next
  pub last : 1 ≤ next_tick m → arriving arrivals (next_tick m - 1) ≡ slice_range lent earlier cursor
  pub forward : earlier ≤ cursor
  pub come : HasCome counted S mode arrivals (next_tick m) m
