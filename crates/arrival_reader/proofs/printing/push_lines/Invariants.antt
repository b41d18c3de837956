use Rattle.std.proofs.Common.{◌≡◌, ◌++◌, drop}
use Rattle.std.specs.String.{string_bytes}
use Rattle.arrival_reader.specs.PrintedArrivals.{printed_list}
use Rattle.arrival_reader.proofs.printing.push_lines.Given as goal

abbrev pub invariant-loop-arrival : goal.invariant-loop-arrival
invariant-loop-arrival l =
    string_bytes l.text ++ printed_list l.routines (drop l.arrival-index l.list)
    ≡ string_bytes l.fn.text ++ printed_list l.routines l.list
