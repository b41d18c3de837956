use Rattle.std.proofs.Common.{◌≡◌, [], take}
use Rattle.std.specs.List.{flat_map}
use Rattle.search_keys.specs.Bytes.{number}
use Rattle.search_packed.specs.Packed.{bare}
use Rattle.search_packed.proofs.zeros.are_zero.Given as goal

abbrev pub invariant-loop-n : goal.invariant-loop-n
invariant-loop-n l = bare (flat_map number (take l.n-index l.numbers)) ≡ []
