use Rattle.std.proofs.Common.{◌≡◌, ◌++◌, take}
use Rattle.std.specs.List.{flat_map}
use Rattle.search_packed.specs.Packed.{hold_bytes}
use Rattle.search_packed.proofs.packing.push_each_hold.Given as goal

abbrev pub invariant-loop-hold : goal.invariant-loop-hold
invariant-loop-hold l =
    l.out.items ≡ l.fn.out.items ++ flat_map hold_bytes (take l.hold-index l.holds)
