-- OSEK/VDX OS: interrupt processing, category 2. The arrivals that a run depends on, and those with which it goes on.
use Rattle.std.specs.Prelude.{ℕ, ◌≡◌, ◌<◌, ◌++◌, true, List, map, nat_lt, length}
use Rattle.std.specs.List.{AllByRecursion, filter}
use Rattle.osek_base.specs.declared.arrivals.Arrival.{Arrival}
use Rattle.osek_base.specs.ArrivalList.{are_in_order}
use Rattle.osek_base.specs.System.{System}
use Rattle.osek_base.specs.Trace.{arriving}

-- arrivals of routines of the system, in order and below the limit of ticks
pub record AreArrivals (S : System) (arrivals : List Arrival) : Type 0 where
  pub known : AllByRecursion (λ a. a.routine < length S.routines) arrivals
  pub ordered : are_in_order 0 arrivals ≡ true

-- the same interrupts arrive in each tick before one
abbrev pub HaveOnePast : ℕ → List Arrival → List Arrival → Type 0
HaveOnePast n a b = (t : ℕ) → t < n → arriving a t ≡ arriving b t

-- the interrupts of some routines arrive at a tick
abbrev pub arrived_at : ℕ → List ℕ → List Arrival
arrived_at n routines = map (λ i. record { tick = n; routine = i }) routines

-- the arrivals before a tick, and those of some routines at it
abbrev pub with_arrived : ℕ → List ℕ → List Arrival → List Arrival
with_arrived n routines arrivals = filter (λ a. nat_lt a.tick n) arrivals ++ arrived_at n routines
