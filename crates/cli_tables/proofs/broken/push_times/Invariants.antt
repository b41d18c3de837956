use Rattle.std.proofs.Common.{◌≡◌, ◌++◌, drop}
use Rattle.std.specs.List.{flat_map}
use Rattle.std.specs.String.{string_bytes}
use Rattle.cli_tables.specs.Broken.{time_lines}
use Rattle.cli_tables.proofs.broken.push_times.Given as goal

abbrev pub invariant-loop-limit : goal.invariant-loop-limit
invariant-loop-limit l =
    string_bytes l.text ++ flat_map (time_lines l.system l.found) (drop l.limit-index l.limits)
    ≡ string_bytes l.fn.text ++ flat_map (time_lines l.system l.found) l.limits
