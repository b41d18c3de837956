-- Limits that bounds break.
use Rattle.std.specs.Prelude.{ℕ, Bool, true, false, ◌&&◌, not, nat_le, if◌then◌else◌, List, [], ◌++◌, Option, Some, None, codes, decimal}
use Rattle.std.specs.List.{flat_map, list_all}
use Rattle.osek_base.specs.Names.{number_of}
use Rattle.osek_base.specs.System.{System}
use Rattle.view_measures.specs.declared.measure.Measure.{Measure}
use Rattle.view_measures.specs.Kinds.{count_of, name_of, names_of}
use Rattle.view_measures.specs.Measures.{figure, kind_of}
use Rattle.view_figure_texts.specs.declared.limits.Limit.{Limit}
use Rattle.view_figure_texts.specs.declared.limits.Limits.{Limits}
use Rattle.search_witnesses.specs.declared.findings.Findings.{Findings}
use Rattle.cli_tables.specs.declared.cells.Cell.{Cell}
use Rattle.cli_tables.specs.Cells.{cell_of}
use Rattle.cli_tables.specs.Texts.{each_below, shown_text}

-- ---- limits on times

-- what is told is a time of so many ticks at most
abbrev pub is_within : Cell → ℕ → Bool
is_within (Cell.Time ticks reached) most = nat_le ticks most
is_within other most = false

-- the line of a limit that is broken: the name, what is told, and the limit
unfoldable pub broken_line : List ℕ → Cell → ℕ → List ℕ
broken_line name cell most =
    codes "broken: " ++ name ++ codes " " ++ shown_text cell ++ codes " of " ++ decimal most ++ codes "\n"

-- of a limit on what is told of a thing
unfoldable pub line_unless_within : List ℕ → Cell → ℕ → List ℕ
line_unless_within name cell most = if is_within cell most then [] else broken_line name cell most

abbrev pub line_of_thing : Findings → Measure → Limit → Option ℕ → List ℕ
line_of_thing f measure limit None = []
line_of_thing f measure limit (Some number) =
    line_unless_within limit.name.now (cell_of f (figure measure number)) limit.ticks

-- of the thing of a measure that has the limit's name, where one has
unfoldable pub line_of_measure : System → Findings → Measure → Limit → List ℕ
line_of_measure S f measure limit =
    line_of_thing f measure limit (number_of limit.name.now (names_of S (kind_of measure)))

-- of a task's response, and of a routine's latency
unfoldable pub time_lines : System → Findings → Limit → List ℕ
time_lines S f limit =
    line_of_measure S f Measure.Response limit ++ line_of_measure S f Measure.Latency limit

-- ---- what may not come

-- no run is known in which it does
abbrev pub unless_known : Bool → List ℕ
unless_known reached = if reached then [] else codes " <=1"

-- what is told says that it may come
abbrev pub may_come : Cell → Bool
may_come (Cell.Coming comes reached) = comes
may_come other = false

-- and that a run shows it
abbrev pub is_shown : Cell → Bool
is_shown (Cell.Coming comes reached) = reached
is_shown other = false

unfoldable pub coming_line : List ℕ → List ℕ → Cell → List ℕ
coming_line name what cell =
    if may_come cell
    then codes "broken: " ++ name ++ codes " " ++ what ++ unless_known (is_shown cell) ++ codes "\n"
    else []

-- of a thing
unfoldable pub coming_of : System → Findings → Measure → List ℕ → ℕ → List ℕ
coming_of S f measure what number =
    coming_line (name_of S (kind_of measure) number) what (cell_of f (figure measure number))

-- of all things of a measure
unfoldable pub coming_lines : System → Findings → Measure → List ℕ → List ℕ
coming_lines S f measure what =
    each_below (coming_of S f measure what) (count_of S (kind_of measure))

-- of losses, and of refusals
unfoldable pub loss_lines : System → Findings → List ℕ
loss_lines S f = coming_lines S f Measure.Loss (codes "loss")

unfoldable pub refusal_lines : System → Findings → List ℕ
refusal_lines S f =
    coming_lines S f Measure.Refusal (codes "refusal")
    ++ coming_lines S f Measure.RefusedAction (codes "refusal")

-- ---- all of them

-- a line for each limit that isn't kept: those on times first, in the order of the limits
unfoldable pub broken_text : System → Findings → Limits → List ℕ
broken_text S f limits =
    flat_map (time_lines S f) limits.times.now
    ++ (if limits.no_loss then loss_lines S f else [])
    ++ (if limits.no_refusal then refusal_lines S f else [])
