-- How many bytes the lines of a run have, without their LF.
use Rattle.std.specs.Prelude.{ℕ, ◌≤◌, List, length}
use Rattle.std.specs.List.{AllByRecursion, flat_map}
use Rattle.osek_base.specs.declared.arrivals.Arrival.{Arrival}
use Rattle.osek_base.specs.declared.limits.TheConstants.{MAX_TICKS}
use Rattle.osek_base.specs.BlockingText.{blocking_lines}
use Rattle.osek_base.specs.Proper.{IsProper}
use Rattle.osek_base.specs.System.{System}
use Rattle.osek_base.specs.Text.{lines}
use Rattle.osek_base.specs.Trace.{run}
use Rattle.osek_base.specs.View.{view_lines}

-- how many bytes a line has at most, and how many with the number of blockers
abbrev pub longest_line : ℕ
longest_line = 121

abbrev pub longest_numbered_line : ℕ
longest_numbered_line = 125

abbrev pub HaveAtMost : ℕ → List (List ℕ) → Type 0
HaveAtMost n texts = AllByRecursion (λ text. length text ≤ n) texts

-- ---- the laws, of every run of a proper system

-- the lines of a trace
abbrev pub LinesAreShort : Type 0
LinesAreShort =
    (S : System) (mode : ℕ) (arrivals : List Arrival) (n : ℕ) → IsProper S → n ≤ MAX_TICKS
    → HaveAtMost longest_line (lines S.names (run S mode arrivals n))

-- those of a trace with the numbers of blockers
abbrev pub NumberedLinesAreShort : Type 0
NumberedLinesAreShort =
    (S : System) (mode : ℕ) (arrivals : List Arrival) (n : ℕ) → IsProper S → n ≤ MAX_TICKS
    → HaveAtMost longest_numbered_line
    (flat_map (blocking_lines S mode arrivals) (run S mode arrivals n).steps)

-- those of a view, at any priority
abbrev pub ViewLinesAreShort : Type 0
ViewLinesAreShort =
    (S : System) (p mode : ℕ) (arrivals : List Arrival) (n : ℕ) → IsProper S → n ≤ MAX_TICKS
    → HaveAtMost longest_line (view_lines S p (run S mode arrivals n))
