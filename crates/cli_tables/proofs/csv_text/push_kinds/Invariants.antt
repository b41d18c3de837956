use Rattle.std.proofs.Common.{◌≡◌, ◌++◌, drop}
use Rattle.std.specs.List.{flat_map}
use Rattle.std.specs.String.{string_bytes}
use Rattle.view_measures.specs.Kinds.{kinds}
use Rattle.cli_tables.specs.CsvText.{kind_lines}
use Rattle.cli_tables.proofs.csv_text.push_kinds.Given as goal

abbrev pub invariant-loop-kind : goal.invariant-loop-kind
invariant-loop-kind l =
    string_bytes l.text ++ flat_map (kind_lines l.system l.found) (drop l.kind-index kinds)
    ≡ string_bytes l.fn.text ++ flat_map (kind_lines l.system l.found) kinds
