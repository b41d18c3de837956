use Rattle.std.proofs.Common.{◌≡◌, ◌++◌, take}
use Rattle.std.specs.List.{flat_map}
use Rattle.search_keys.specs.Bytes.{number, optional}
use Rattle.search_packed.proofs.packing.push_each_optional.Given as goal

abbrev pub invariant-loop-age : goal.invariant-loop-age
invariant-loop-age l =
    l.out.items ≡ l.fn.out.items ++ flat_map (optional number) (take l.age-index l.ages)
