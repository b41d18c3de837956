use Rattle.std.proofs.Common.{◌≡◌, ◌++◌}
use Rattle.std.specs.String.{string_bytes}
use Rattle.cli_tables.specs.Texts.{each_below}
use Rattle.cli_tables.specs.Broken.{coming_of}
use Rattle.cli_tables.proofs.broken.push_all_coming.Given as goal

abbrev pub invariant-loop-number : goal.invariant-loop-number
invariant-loop-number l =
    string_bytes l.text
    ≡ string_bytes l.fn.text
    ++ each_below (coming_of l.system l.found l.measure l.what) l.number
