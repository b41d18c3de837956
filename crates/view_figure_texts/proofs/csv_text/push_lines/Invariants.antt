use Rattle.std.proofs.Common.{◌≡◌, ◌++◌, drop}
use Rattle.std.specs.List.{flat_map}
use Rattle.std.specs.String.{string_bytes}
use Rattle.view_figure_texts.specs.Csv.{csv_line}
use Rattle.view_figure_texts.proofs.csv_text.push_lines.Given as goal

abbrev pub invariant-loop-entry : goal.invariant-loop-entry
invariant-loop-entry l =
    string_bytes l.text ++ flat_map (csv_line l.kind l.name) (drop l.entry-index l.entries)
    ≡ string_bytes l.fn.text ++ flat_map (csv_line l.kind l.name) l.entries
