use Rattle.std.proofs.Common.{◌≡◌, ◌++◌}
use Rattle.std.specs.String.{string_bytes}
use Rattle.cli_tables.specs.Texts.{each_below}
use Rattle.cli_tables.specs.CsvText.{service_line}
use Rattle.cli_tables.proofs.csv_text.push_services.Given as goal

abbrev pub invariant-loop-number : goal.invariant-loop-number
invariant-loop-number l =
    string_bytes l.text
    ≡ string_bytes l.fn.text ++ each_below (service_line l.system l.found) l.number
