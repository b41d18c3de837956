use Rattle.std.proofs.Common.{◌≡◌, [], take}
use Rattle.std.specs.List.{flat_map}
use Rattle.search_packed.specs.Packed.{bare, hold_bytes}
use Rattle.search_packed.proofs.zeros.are_free.Given as goal

abbrev pub invariant-loop-hold : goal.invariant-loop-hold
invariant-loop-hold l = bare (flat_map hold_bytes (take l.hold-index l.holds)) ≡ []
