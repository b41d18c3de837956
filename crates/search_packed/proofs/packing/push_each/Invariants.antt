use Rattle.std.proofs.Common.{◌≡◌, ◌++◌, take}
use Rattle.std.specs.List.{flat_map}
use Rattle.search_keys.specs.Bytes.{number}
use Rattle.search_packed.proofs.packing.push_each.Given as goal

abbrev pub invariant-loop-n : goal.invariant-loop-n
invariant-loop-n l =
    l.out.items ≡ l.fn.out.items ++ flat_map number (take l.n-index l.numbers)
