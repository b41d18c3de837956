-- The text of a list of arrivals, as it is printed.
use Rattle.std.specs.Prelude.{ℕ, ◌+◌, List, [], ◌∷◌, ◌++◌, Option, Some, None, codes, decimal, if◌then◌else◌}
use Rattle.std.specs.List.{flat_map}
use Rattle.osek_base.specs.declared.arrivals.Arrival.{Arrival}
use Rattle.osek_base.specs.Names.{name_at}
use Rattle.arrival_reader.specs.ArrivalText.{is_name}

-- an arrival's line: its tick in decimal, one space, its routine's name, and LF
unfoldable pub printed_line : List (List ℕ) → Arrival → List ℕ
printed_line routines a = decimal a.tick ++ codes " " ++ name_at routines a.routine ++ codes "\n"

-- a line an arrival
abbrev pub printed_list : List (List ℕ) → List Arrival → List ℕ
printed_list routines arrivals = flat_map (printed_line routines) arrivals

-- of the lines from `number` on, the first whose routine has no NAME
abbrev pub first_unnamed : List (List ℕ) → ℕ → List Arrival → Option ℕ
first_unnamed routines number [] = None
first_unnamed routines number (a ∷ arrivals) =
    if is_name (name_at routines a.routine) then first_unnamed routines (number + 1) arrivals
    else Some number
