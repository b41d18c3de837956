use Rattle.std.proofs.Common.{◌≡◌, ◌++◌, drop}
use Rattle.std.specs.List.{flat_map}
use Rattle.std.specs.String.{string_bytes}
use Rattle.view_measures.specs.Measures.{measures_of}
use Rattle.cli_tables.specs.CsvText.{figure_line}
use Rattle.cli_tables.proofs.csv_text.push_object.Given as goal

abbrev pub invariant-loop-measure : goal.invariant-loop-measure
invariant-loop-measure l =
    string_bytes l.text
    ++ flat_map (figure_line l.system l.found l.number) (drop l.measure-index l.measure-items)
    ≡ string_bytes l.fn.text ++ flat_map (figure_line l.system l.found l.number) (measures_of l.fn.kind)
