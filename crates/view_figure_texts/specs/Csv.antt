-- Figures as comma-separated values: the heading, and a line a figure, section by section, and in each
-- object by object.
use Rattle.std.specs.Prelude.{ℕ, ◌/◌, ◌%◌, List, [], ◌++◌, codes, decimal}
use Rattle.std.specs.List.{flat_map}
use Rattle.osek_base.specs.System.{System}
use Rattle.osek_base.specs.Lists.{below}
use Rattle.view_figures.specs.FigureSums.{RunFigures}
use Rattle.view_figure_texts.specs.declared.cells.Cell.{Cell}
use Rattle.view_figure_texts.specs.declared.entry.Entry.{Entry}
use Rattle.view_figure_texts.specs.declared.section.Section.{Section}
use Rattle.view_figure_texts.specs.Words.{word_text}
use Rattle.view_figure_texts.specs.Sections.{entries_of, object_count, object_name, section_word, sections}

-- a count in decimal, tenths with a point, and nothing where there is no figure
abbrev pub cell_text : Cell → List ℕ
cell_text (Cell.Count n) = decimal n
cell_text (Cell.Tenths n) = decimal (n / 10) ++ codes "." ++ decimal (n % 10)
cell_text Cell.Nothing = []

-- kind, name, figure and value
unfoldable pub csv_line : List ℕ → List ℕ → Entry → List ℕ
csv_line kind name entry =
    kind ++ codes "," ++ name ++ codes "," ++ word_text entry.word ++ codes "," ++ cell_text entry.cell
    ++ codes "\n"

-- the lines of an object, of a section, and of all
unfoldable pub object_lines : System → RunFigures → Section → ℕ → List ℕ
object_lines S f section n =
    flat_map (csv_line (section_word section) (object_name S section n)) (entries_of f section n)

unfoldable pub section_lines : System → RunFigures → Section → List ℕ
section_lines S f section = flat_map (object_lines S f section) (below (object_count f section))

unfoldable pub csv_text : System → RunFigures → List ℕ
csv_text S f = codes "kind,name,figure,value\n" ++ flat_map (section_lines S f) sections
