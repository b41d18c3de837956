-- OSEK/VDX OS: interrupt processing, category 2. Lists of arrivals: their order and their limits.
use Rattle.std.specs.Prelude.{ℕ, Bool, true, ◌&&◌, nat_le, nat_lt, List, [], ◌∷◌, length}
use Rattle.osek_base.specs.Types.{Arrival}
use Rattle.osek_base.specs.declared.limits.TheConstants.{MAX_ARRIVALS, MAX_TICKS}

-- ticks don't fall, and are ticks of a run
abbrev pub are_in_order : ℕ → List Arrival → Bool
are_in_order least [] = true
are_in_order least (a ∷ rest) = nat_le least a.tick && nat_lt a.tick MAX_TICKS && are_in_order a.tick rest

-- a list of arrivals: in order, and not too many
abbrev pub is_arrival_list : List Arrival → Bool
is_arrival_list arrivals = nat_le (length arrivals) MAX_ARRIVALS && are_in_order 0 arrivals
