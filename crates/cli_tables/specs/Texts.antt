-- What is written of a figure.
use Rattle.std.specs.Prelude.{ℕ, zero, suc, Bool, cond, List, [], ◌++◌, if◌then◌else◌, codes, decimal}
use Rattle.search_witnesses.specs.declared.findings.Findings.{Findings}
use Rattle.search_witnesses.specs.Findings.{is_failing}
use Rattle.cli_tables.specs.declared.cells.Cell.{Cell}

-- 1 for what may come, and 0 for what doesn't
abbrev pub number_of : Bool → ℕ
number_of comes = cond comes 1 0

-- the figure as a number, where one is told
abbrev pub number_text : Cell → List ℕ
number_text (Cell.Time ticks reached) = decimal ticks
number_text Cell.Above = []
number_text Cell.Unbounded = []
number_text (Cell.Count value reached) = decimal value
number_text (Cell.Coming comes reached) = decimal (number_of comes)

abbrev pub reached_or : Bool → List ℕ → List ℕ
reached_or reached other = if reached then codes "reached" else other

-- what is promised of it: that a run shows it, and none shows more; that none shows more; that some run
-- shows as much as one likes; or nothing
abbrev pub standing_of : Cell → List ℕ
standing_of (Cell.Time ticks reached) = reached_or reached (codes "bound")
standing_of Cell.Above = codes "above"
standing_of Cell.Unbounded = codes "unbounded"
standing_of (Cell.Count value reached) = reached_or reached (codes "bound")
standing_of (Cell.Coming comes reached) =
    reached_or reached (if comes then codes "above" else codes "bound")

-- and of a service, by its number among those that are told
abbrev pub service_standing : Findings → ℕ → List ℕ
service_standing f number = reached_or (is_failing f number) (codes "bound")

-- the sign of a number that no run is known to show
abbrev pub sign_of : Bool → List ℕ
sign_of reached = if reached then [] else codes "<="

-- the figure as a table prints it, without the spaces before it
abbrev pub shown_text : Cell → List ℕ
shown_text (Cell.Time ticks reached) = sign_of reached ++ decimal ticks
shown_text Cell.Above = codes "above"
shown_text Cell.Unbounded = codes "unbounded"
shown_text (Cell.Count value reached) = sign_of reached ++ decimal value
shown_text (Cell.Coming comes reached) = sign_of reached ++ decimal (number_of comes)

-- the texts of the numbers below n
abbrev pub each_below : (ℕ → List ℕ) → ℕ → List ℕ
each_below text zero = []
each_below text (suc n) = each_below text n ++ text n
