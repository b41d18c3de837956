-- OSEK/VDX OS: interrupt processing, category 2. Which routines arrive at a tick.
use Rattle.std.specs.Prelude.{ℕ, Bool, List, length}
use Rattle.std.specs.List.{filter}
use Rattle.osek_base.specs.declared.arrivals.Arrival.{Arrival}
use Rattle.osek_base.specs.Lists.{below, is_in}
use Rattle.osek_base.specs.System.{System}
use Rattle.osek_base.specs.Trace.{arriving}

-- whether a routine arrives at a tick
abbrev pub arrives : List Arrival → ℕ → ℕ → Bool
arrives arrivals t i = is_in i (arriving arrivals t)

-- the routines that are chosen, by number
abbrev pub chosen_of : System → (ℕ → Bool) → List ℕ
chosen_of S chosen = filter chosen (below (length S.routines))
