use Rattle.std.proofs.Common.{◌≡◌, ◌++◌}
use Rattle.std.specs.String.{string_bytes}
use Rattle.cli_tables.specs.Texts.{each_below}
use Rattle.cli_tables.specs.CsvText.{object_lines}
use Rattle.cli_tables.proofs.csv_text.push_kind.Given as goal

abbrev pub invariant-loop-number : goal.invariant-loop-number
invariant-loop-number l =
    string_bytes l.text
    ≡ string_bytes l.fn.text ++ each_below (object_lines l.system l.found l.kind) l.number
