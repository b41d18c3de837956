-- Bounds as comma-separated values.
use Rattle.std.specs.Prelude.{ℕ, List, [], ◌++◌, Option, Some, None, codes, decimal, length, slice_get}
use Rattle.std.specs.List.{flat_map}
use Rattle.osek_base.specs.Names.{owner_name}
use Rattle.osek_base.specs.Tick.{status_number}
use Rattle.osek_base.specs.System.{System}
use Rattle.seen_ticks.specs.declared.failures.Failure.{Failure}
use Rattle.view_measures.specs.declared.kind.Kind.{Kind}
use Rattle.view_measures.specs.declared.measure.Measure.{Measure}
use Rattle.view_measures.specs.Kinds.{count_of, kind_word, kinds, name_of}
use Rattle.view_measures.specs.Measures.{figure, kind_of, measures_of}
use Rattle.view_figure_texts.specs.Tables.{measure_word}
use Rattle.search_witnesses.specs.declared.findings.Findings.{Findings}
use Rattle.cli_tables.specs.Cells.{cell_of}
use Rattle.cli_tables.specs.Texts.{each_below, number_text, service_standing, standing_of}

-- a line: five values, and its end
unfoldable pub line : List ℕ → List ℕ → List ℕ → List ℕ → List ℕ → List ℕ
line kind name figure value standing =
    kind ++ codes "," ++ name ++ codes "," ++ figure ++ codes "," ++ value ++ codes "," ++ standing ++ codes "\n"

-- the line of a figure, by the number of its thing and its measure
unfoldable pub figure_line : System → Findings → ℕ → Measure → List ℕ
figure_line S f number measure =
    let kind = kind_of measure in
    let cell = cell_of f (figure measure number) in
    line (kind_word kind) (name_of S kind number) (measure_word measure) (number_text cell) (standing_of cell)

-- the lines of a thing of a kind; of all of them
unfoldable pub object_lines : System → Findings → Kind → ℕ → List ℕ
object_lines S f kind number = flat_map (figure_line S f number) (measures_of kind)

unfoldable pub kind_lines : System → Findings → Kind → List ℕ
kind_lines S f kind = each_below (object_lines S f kind) (count_of S kind)

-- the line of a service that may be answered other than E_OK: whose it is, its place, the number of
-- the status, and what is promised of it
unfoldable pub failure_line : System → Failure → List ℕ → List ℕ
failure_line S failure standing =
    line (codes "service") (owner_name S.names failure.owner) (decimal failure.place)
    (decimal (status_number failure.status)) standing

abbrev pub line_of_failure : System → Option Failure → List ℕ → List ℕ
line_of_failure S None standing = []
line_of_failure S (Some failure) standing = failure_line S failure standing

unfoldable pub service_line : System → Findings → ℕ → List ℕ
service_line S f number =
    line_of_failure S (slice_get f.bounds.peaks.failures number) (service_standing f number)

-- the text: a heading, a line a figure, kind by kind, and a line a service
abbrev pub csv_text : System → Findings → List ℕ
csv_text S f =
    codes "kind,name,figure,value,standing\n" ++ flat_map (kind_lines S f) kinds
    ++ each_below (service_line S f) (length f.bounds.peaks.failures)
