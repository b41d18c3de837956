-- A worked run is shown by two computations: that its system is proper, and its lines.
use Rattle.std.proofs.Common.{ℕ, List, ◌≡◌, true, ◌&&◌}
use Rattle.std.proofs.lemmas.Bool.{and_parts}
use Rattle.osek_base.specs.System.{System}
use Rattle.osek_base.specs.declared.arrivals.Arrival.{Arrival}
use Rattle.osek_base.specs.Proper.{IsProper, is_within_limits, is_named_throughout, has_proper_names, has_proper_objects}
use Rattle.osek_base.specs.Trace.{run}
use Rattle.osek_base.specs.Text.{lines}
use Rattle.test_runs.specs.Worked.{IsWorkedRun}

pub proper :
    {S : System}
    → ((is_within_limits S && is_named_throughout S) && (has_proper_names S.names && has_proper_objects S)) ≡ true
    → IsProper S
proper {S} e =
    let halves = and_parts (is_within_limits S && is_named_throughout S) (has_proper_names S.names && has_proper_objects S) e in
    let first = and_parts (is_within_limits S) (is_named_throughout S) halves.0 in
    let second = and_parts (has_proper_names S.names) (has_proper_objects S) halves.1 in
    record { limits = first.0; named = first.1; names = second.0; objects = second.1 }

pub worked :
    {S : System} {arrivals : List Arrival} {n : ℕ} {ls : List (List ℕ)}
    → ((is_within_limits S && is_named_throughout S) && (has_proper_names S.names && has_proper_objects S)) ≡ true
    → lines S.names (run S 0 arrivals n) ≡ ls
    → IsWorkedRun S arrivals n ls
worked e told = record { proper = proper e; told = told }
